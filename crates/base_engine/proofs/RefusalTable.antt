-- The refusals of each command, in their order.
use Rattle.std.proofs.Common.{◌≡◌, ℕ, ◌<◌, ◌≤◌, ◌⊎◌, inl, inr, List, [], ◌∷◌, ◌++◌, length, take, All, Option, Some, None, slice_get, Result, Ok, Err, refl, sym, ◌∙◌, ap, subst, arith}
use Rattle.std.proofs.lemmas.Option.{slice_get_within, get_or_from_slice_get}
use Rattle.dl_base.specs.Ontology.{Terminology}
use Rattle.dl_base.specs.Query.{Question}
use Rattle.dl_base.specs.declared.query.Atom.{Atom}
use Rattle.dl_base.specs.declared.query.Atom.TheVariants as atom
use Rattle.dl_base.specs.declared.row.NamedRow.{NamedRow}
use Rattle.dl_base.specs.declared.row.NamedChange.{NamedChange}
use Rattle.axiom_reader.specs.declared.block.BlockError.{BlockError}
use Rattle.gen_arena.specs.Store.{IsGone, IsHandleStore, IsLive, room_of}
use Rattle.gen_arena.specs.declared.handle.Handle.{Handle}
use Rattle.gen_arena.specs.declared.handle.Gone.TheVariants as gone
use Rattle.gen_arena.proofs.LawLemmas.{gone_is_not_live}
use Rattle.query_shape.specs.ShapeFault.{IsAtomFault, IsFirstFault, IsKnown}
use Rattle.query_shape.specs.declared.numbering.ShapeError.{ShapeError}
use Rattle.query_shape.specs.declared.numbering.ShapeError.TheVariants as unknown
use Rattle.base_store.specs.Area.{area_limit}
use Rattle.base_store.specs.History.{used, with_ontology, with_transaction, ontology_of}
use Rattle.dl_base.specs.Numbers.{IsNamedBy}
use Rattle.base_store.specs.Legal.{IsCrowded}
use Rattle.reply_text.specs.declared.reply.Refusal.{Refusal}
use Rattle.reply_text.specs.declared.reply.Refusal.TheVariants as refusal
use Rattle.script_reader.specs.declared.command.Command.{Command}
use Rattle.script_reader.specs.declared.command.Command.TheVariants as command
use Rattle.script_reader.specs.declared.request.Request.TheVariants as request
use Rattle.base_engine.specs.State.{MachineState}
use Rattle.base_engine.specs.Refusals.{AppendsChange, IsAccepted, IsRefusedFor, LacksNameOf, LacksNameIn, NeedsOntology, NeedsOpen, PosesQuery, RefusalHolds, UsesHandle, rank}
use Rattle.base_engine.specs.RefusalLaws.{AbortRefusals, AskRefusals, BeginRefusals, BlockRefusals, ChangeRefusals, CommitRefusals, HandleRefusals, LineRefusals, OntologyRefusals, OthersAccepted, PrepareRefusals}
use Rattle.base_engine.proofs.RowsOnce.{ontology_once}
use Rattle.base_engine.proofs.RefusedOnce.{NamesUnknown, not_known, rank_row, rank_query}

-- something and nothing
pub some_or_none : {X : Type 0} (x : X) (found : Option X) → found ≡ Some x → found ≡ None → ⊥
some_or_none x found a b = let e : Some x ≡ None = sym a ∙ b in cc

-- ---- lines

bad_first : (s : MachineState) (e f : Refusal) → RefusalHolds s (request.Bad e) f → rank e ≤ rank f
bad_first s e f RefusalHolds.bad = omega arith

pub line_refusals : LineRefusals
line_refusals s e = record { holds = RefusalHolds.bad; first = bad_first s e }

-- ---- no ontology

five : (s : MachineState) (c : Command) (f : Refusal) → NeedsOntology c → RefusalHolds s (request.Plain c) f → 5 ≤ rank f
five s c f needs (RefusalHolds.no_ontology again none) = omega arith
five s c f needs (RefusalHolds.not_open k open' closed) = omega arith
five s c f needs (RefusalHolds.already_open changes are) = omega arith
five s c f needs (RefusalHolds.unknown_name o k r has appends lacks) = omega (arith, rank_row o r f lacks)
five s c f needs (RefusalHolds.unknown_in_query o q has poses lacks) = omega (arith, rank_query o q f lacks)
five s c f needs (RefusalHolds.pending k r changes appends are many) = omega arith
five s c f needs (RefusalHolds.crowded changes are many) = omega arith
five s c f needs (RefusalHolds.transaction_full changes are full) = omega arith
five s c f needs (RefusalHolds.never_given h uses never) = omega arith
five s c f needs (RefusalHolds.dropped h uses dropped) = omega arith
five s c f needs (RefusalHolds.no_slot full) = omega arith

pub no_ontology : (s : MachineState) (c : Command) → NeedsOntology c → ontology_of s.history ≡ None → IsRefusedFor s (request.Plain c) refusal.NoOntology
no_ontology s c needs none = record { holds = RefusalHolds.no_ontology needs none; first = λ f h. five s c f needs h }

pub ontology_refusals : OntologyRefusals
ontology_refusals s none = (
  λ k. no_ontology s (command.Begin k) tt none,
  λ k r. no_ontology s (command.Add k r) tt none,
  λ k r. no_ontology s (command.Del k r) tt none,
  λ k. no_ontology s (command.Commit k) tt none,
  λ k. no_ontology s (command.Abort k) tt none,
  λ q. no_ontology s (command.Ask q) tt none,
  λ q. no_ontology s (command.Prepare q) tt none,
  λ h. no_ontology s (command.Run h) tt none,
  λ h. no_ontology s (command.Drop h) tt none,
  no_ontology s command.Check tt none,
  no_ontology s command.Tables tt none,
)

-- ---- blocks

there_first : (s : MachineState) (result : Result Terminology BlockError) (f : Refusal) → RefusalHolds s (request.Block result) f → 6 ≤ rank f
there_first s result f (RefusalHolds.ontology_there o has) = omega arith
there_first s result f RefusalHolds.block = omega arith
there_first s result f (RefusalHolds.ontology_full full) = omega arith

block_first : (s : MachineState) (e : BlockError) (f : Refusal) → ontology_of s.history ≡ None → RefusalHolds s (request.Block (Err e)) f → 7 ≤ rank f
block_first s e f none (RefusalHolds.ontology_there o has) = absurd (some_or_none o (ontology_of s.history) has none)
block_first s e f none RefusalHolds.block = omega arith

full_first : (s : MachineState) (o : Terminology) (f : Refusal) → ontology_of s.history ≡ None → RefusalHolds s (request.Block (Ok o)) f → 13 ≤ rank f
full_first s o f none (RefusalHolds.ontology_there p has) = absurd (some_or_none p (ontology_of s.history) has none)
full_first s o f none (RefusalHolds.ontology_full full) = omega arith

block_accepted : (s : MachineState) (o : Terminology) (f : Refusal) → ontology_of s.history ≡ None → used (with_ontology o s.history) ≤ area_limit → RefusalHolds s (request.Block (Ok o)) f → ⊥
block_accepted s o f none fits (RefusalHolds.ontology_there p has) = some_or_none p (ontology_of s.history) has none
block_accepted s o f none fits (RefusalHolds.ontology_full full) = omega arith

pub block_refusals : BlockRefusals
block_refusals s = (
  λ result p has. record { holds = RefusalHolds.ontology_there p has; first = there_first s result },
  λ e none. record { holds = RefusalHolds.block; first = λ f h. block_first s e f none h },
  λ o none full. record { holds = RefusalHolds.ontology_full full; first = λ f h. full_first s o f none h },
  λ o none fits f h. block_accepted s o f none fits h,
)

-- ---- begin

nine : (s : MachineState) (k : ℕ) (o : Terminology) (f : Refusal) → ontology_of s.history ≡ Some o → RefusalHolds s (request.Plain (command.Begin k)) f → 9 ≤ rank f
nine s k o f has (RefusalHolds.no_ontology needs none) = absurd (some_or_none o (ontology_of s.history) has none)
nine s k o f has (RefusalHolds.not_open l needs closed) = elim needs [ ]
nine s k o f has (RefusalHolds.already_open changes are) = omega arith
nine s k o f has (RefusalHolds.unknown_name p l r its appends lacks) = elim appends [ ]
nine s k o f has (RefusalHolds.pending l r changes appends are many) = elim appends [ ]
nine s k o f has (RefusalHolds.unknown_in_query p x its poses lacks) = elim poses [ ]
nine s k o f has (RefusalHolds.never_given j uses never) = elim uses [ ]
nine s k o f has (RefusalHolds.dropped j uses dropped) = elim uses [ ]

begin_accepted : (s : MachineState) (k : ℕ) (o : Terminology) (f : Refusal) → ontology_of s.history ≡ Some o → s.session k ≡ None → RefusalHolds s (request.Plain (command.Begin k)) f → ⊥
begin_accepted s k o f has closed (RefusalHolds.no_ontology needs none) = some_or_none o (ontology_of s.history) has none
begin_accepted s k o f has closed (RefusalHolds.not_open l needs shut) = elim needs [ ]
begin_accepted s k o f has closed (RefusalHolds.already_open changes are) = some_or_none changes (s.session k) are closed
begin_accepted s k o f has closed (RefusalHolds.unknown_name p l r its appends lacks) = elim appends [ ]
begin_accepted s k o f has closed (RefusalHolds.pending l r changes appends are many) = elim appends [ ]
begin_accepted s k o f has closed (RefusalHolds.unknown_in_query p x its poses lacks) = elim poses [ ]
begin_accepted s k o f has closed (RefusalHolds.never_given j uses never) = elim uses [ ]
begin_accepted s k o f has closed (RefusalHolds.dropped j uses dropped) = elim uses [ ]

pub begin_refusals : BeginRefusals
begin_refusals s k o has = (
  λ changes are. record { holds = RefusalHolds.already_open changes are; first = λ f h. nine s k o f has h },
  λ closed f h. begin_accepted s k o f has closed h,
)

-- ---- changes

-- what may hold of `add` and `del`
data OfChange (s : MachineState) (k : ℕ) (r : NamedRow) : Refusal → Type 0 where
  want_ontology : ontology_of s.history ≡ None → OfChange s k r refusal.NoOntology
  want_session : s.session k ≡ None → OfChange s k r refusal.NotOpen
  want_name : {e : Refusal} (o : Terminology) → ontology_of s.history ≡ Some o → LacksNameOf o r e → OfChange s k r e
  too_many : (changes : List NamedChange) → s.session k ≡ Some changes → 10000 ≤ length changes → OfChange s k r refusal.Pending

of_change : (s : MachineState) (c : Command) (k : ℕ) (r : NamedRow) (f : Refusal) → AppendsChange c k r → RefusalHolds s (request.Plain c) f → OfChange s k r f
of_change s c k r f AppendsChange.add (RefusalHolds.no_ontology needs none) = OfChange.want_ontology none
of_change s c k r f AppendsChange.add (RefusalHolds.not_open l NeedsOpen.add closed) = OfChange.want_session closed
of_change s c k r f AppendsChange.add (RefusalHolds.unknown_name o l x has AppendsChange.add lacks) = OfChange.want_name o has lacks
of_change s c k r f AppendsChange.add (RefusalHolds.pending l x changes AppendsChange.add are many) = OfChange.too_many changes are many
of_change s c k r f AppendsChange.add (RefusalHolds.unknown_in_query p x its poses lacks) = elim poses [ ]
of_change s c k r f AppendsChange.add (RefusalHolds.never_given j uses never) = elim uses [ ]
of_change s c k r f AppendsChange.add (RefusalHolds.dropped j uses dropped) = elim uses [ ]
of_change s c k r f AppendsChange.del (RefusalHolds.no_ontology needs none) = OfChange.want_ontology none
of_change s c k r f AppendsChange.del (RefusalHolds.not_open l NeedsOpen.del closed) = OfChange.want_session closed
of_change s c k r f AppendsChange.del (RefusalHolds.unknown_name o l x has AppendsChange.del lacks) = OfChange.want_name o has lacks
of_change s c k r f AppendsChange.del (RefusalHolds.pending l x changes AppendsChange.del are many) = OfChange.too_many changes are many
of_change s c k r f AppendsChange.del (RefusalHolds.unknown_in_query p x its poses lacks) = elim poses [ ]
of_change s c k r f AppendsChange.del (RefusalHolds.never_given j uses never) = elim uses [ ]
of_change s c k r f AppendsChange.del (RefusalHolds.dropped j uses dropped) = elim uses [ ]

needs_of : (c : Command) (k : ℕ) (r : NamedRow) → AppendsChange c k r → NeedsOpen c k
needs_of c k r AppendsChange.add = NeedsOpen.add
needs_of c k r AppendsChange.del = NeedsOpen.del

-- a row that the ontology names isn't one whose name it lacks
named_or_lacks : (o : Terminology) (r : NamedRow) (e : Refusal) → IsNamedBy o r → LacksNameOf o r e → ⊥
named_or_lacks o r e named (LacksNameOf.concept not) = not named
named_or_lacks o r e named (LacksNameOf.role not) = not named

module _ (s : MachineState) (k : ℕ) (r : NamedRow) (o : Terminology) (has : ontology_of s.history ≡ Some o) where
  eight : (f : Refusal) → OfChange s k r f → 8 ≤ rank f
  eight f (OfChange.want_ontology none) = absurd (some_or_none o (ontology_of s.history) has none)
  eight f (OfChange.want_session closed) = omega arith
  eight f (OfChange.want_name p its lacks) = omega (arith, rank_row p r f lacks)
  eight f (OfChange.too_many changes are many) = omega arith

  ten : (changes : List NamedChange) → s.session k ≡ Some changes → (f : Refusal) → OfChange s k r f → 10 ≤ rank f
  ten changes are f (OfChange.want_ontology none) = absurd (some_or_none o (ontology_of s.history) has none)
  ten changes are f (OfChange.want_session closed) = absurd (some_or_none changes (s.session k) are closed)
  ten changes are f (OfChange.want_name p its lacks) = omega (arith, rank_row p r f lacks)
  ten changes are f (OfChange.too_many others they many) = omega arith

  lacks_named : (p : Terminology) (f : Refusal) → IsNamedBy o r → ontology_of s.history ≡ Some p → LacksNameOf p r f → ⊥
  lacks_named p f named its lacks = named_or_lacks p r f (subst (λ (t : Terminology). IsNamedBy t r) (ontology_once s.history o p has its) named) lacks

  eleven : (changes : List NamedChange) → s.session k ≡ Some changes → IsNamedBy o r → (f : Refusal) → OfChange s k r f → 11 ≤ rank f
  eleven changes are named f (OfChange.want_ontology none) = absurd (some_or_none o (ontology_of s.history) has none)
  eleven changes are named f (OfChange.want_session closed) = absurd (some_or_none changes (s.session k) are closed)
  eleven changes are named f (OfChange.want_name p its lacks) = absurd (lacks_named p f named its lacks)
  eleven changes are named f (OfChange.too_many others they many) = omega arith

  change_accepted : (changes : List NamedChange) → s.session k ≡ Some changes → IsNamedBy o r → length changes < 10000 → (f : Refusal) → OfChange s k r f → ⊥
  change_accepted changes are named few f (OfChange.want_ontology none) = some_or_none o (ontology_of s.history) has none
  change_accepted changes are named few f (OfChange.want_session closed) = some_or_none changes (s.session k) are closed
  change_accepted changes are named few f (OfChange.want_name p its lacks) = lacks_named p f named its lacks
  change_accepted changes are named few f (OfChange.too_many others they many) =
      let same : changes ≡ others = let e : Some changes ≡ Some others = sym are ∙ they in cc in
      let as_long : length changes ≡ length others = ap (λ (cs : List NamedChange). length cs) same in
      omega (arith, as_long, many, few)

-- `add` and `del`, by the row that they append
abbrev pub OfAppending : Type 0
OfAppending = (s : MachineState) (c : Command) (k : ℕ) (r : NamedRow) (o : Terminology) → AppendsChange c k r → ontology_of s.history ≡ Some o
    → (s.session k ≡ None → IsRefusedFor s (request.Plain c) refusal.NotOpen)
    × ((changes : List NamedChange) (e : Refusal) → s.session k ≡ Some changes → LacksNameOf o r e → IsRefusedFor s (request.Plain c) e)
    × ((changes : List NamedChange) → s.session k ≡ Some changes → IsNamedBy o r → 10000 ≤ length changes → IsRefusedFor s (request.Plain c) refusal.Pending)
    × ((changes : List NamedChange) → s.session k ≡ Some changes → IsNamedBy o r → length changes < 10000 → IsAccepted s (request.Plain c))

pub of_appending : OfAppending
of_appending s c k r o appends has = (
  λ closed. record { holds = RefusalHolds.not_open k (needs_of c k r appends) closed; first = λ f h. eight s k r o has f (of_change s c k r f appends h) },
  λ changes e are lacks. record {
    holds = RefusalHolds.unknown_name o k r has appends lacks;
    first = λ f h. subst (λ (n : ℕ). n ≤ rank f) (sym (rank_row o r e lacks)) (ten s k r o has changes are f (of_change s c k r f appends h));
  },
  λ changes are named many. record { holds = RefusalHolds.pending k r changes appends are many; first = λ f h. eleven s k r o has changes are named f (of_change s c k r f appends h) },
  λ changes are named few f h. change_accepted s k r o has changes are named few f (of_change s c k r f appends h),
)

appending : (c : Command) (k : ℕ) (r : NamedRow) → (c ≡ command.Add k r) ⊎ (c ≡ command.Del k r) → AppendsChange c k r
appending c k r (inl e) = subst (λ (d : Command). AppendsChange d k r) (sym e) AppendsChange.add
appending c k r (inr e) = subst (λ (d : Command). AppendsChange d k r) (sym e) AppendsChange.del

pub change_refusals : ChangeRefusals
change_refusals s c k r o either has =
    let rules = of_appending s c k r o (appending c k r either) has in (
      rules.0,
      λ changes name a are is lacks. rules.1 changes (refusal.UnknownConcept name) are (subst (λ (x : NamedRow). LacksNameOf o x (refusal.UnknownConcept name)) (sym is) (LacksNameOf.concept lacks)),
      λ changes name a b are is lacks. rules.1 changes (refusal.UnknownRole name) are (subst (λ (x : NamedRow). LacksNameOf o x (refusal.UnknownRole name)) (sym is) (LacksNameOf.role lacks)),
      rules.2,
      rules.3,
    )

-- ---- commit

-- what may hold of it
data OfCommit (s : MachineState) (k : ℕ) : Refusal → Type 0 where
  want_ontology : ontology_of s.history ≡ None → OfCommit s k refusal.NoOntology
  want_session : s.session k ≡ None → OfCommit s k refusal.NotOpen
  crowds : (changes : List NamedChange) → s.session k ≡ Some changes → IsCrowded (with_transaction changes s.history) → OfCommit s k refusal.Crowded
  fills : (changes : List NamedChange) → s.session k ≡ Some changes → area_limit < used (with_transaction changes s.history) → OfCommit s k refusal.LogFull

of_commit : (s : MachineState) (k : ℕ) (f : Refusal) → RefusalHolds s (request.Plain (command.Commit k)) f → OfCommit s k f
of_commit s k f (RefusalHolds.no_ontology needs none) = OfCommit.want_ontology none
of_commit s k f (RefusalHolds.not_open l NeedsOpen.commit closed) = OfCommit.want_session closed
of_commit s k f (RefusalHolds.unknown_name o l x has appends lacks) = elim appends [ ]
of_commit s k f (RefusalHolds.pending l x changes appends are many) = elim appends [ ]
of_commit s k f (RefusalHolds.unknown_in_query p x its poses lacks) = elim poses [ ]
of_commit s k f (RefusalHolds.never_given j uses never) = elim uses [ ]
of_commit s k f (RefusalHolds.dropped j uses dropped) = elim uses [ ]
of_commit s k f (RefusalHolds.crowded changes are many) = OfCommit.crowds changes are many
of_commit s k f (RefusalHolds.transaction_full changes are full) = OfCommit.fills changes are full

module _ (s : MachineState) (k : ℕ) (o : Terminology) (has : ontology_of s.history ≡ Some o) where
  commit_eight : (f : Refusal) → OfCommit s k f → 8 ≤ rank f
  commit_eight f (OfCommit.want_ontology none) = absurd (some_or_none o (ontology_of s.history) has none)
  commit_eight f (OfCommit.want_session closed) = omega arith
  commit_eight f (OfCommit.crowds changes are many) = omega arith
  commit_eight f (OfCommit.fills changes are full) = omega arith

  module _ (changes : List NamedChange) (are : s.session k ≡ Some changes) where
    commit_twelve : (f : Refusal) → OfCommit s k f → 12 ≤ rank f
    commit_twelve f (OfCommit.want_ontology none) = absurd (some_or_none o (ontology_of s.history) has none)
    commit_twelve f (OfCommit.want_session closed) = absurd (some_or_none changes (s.session k) are closed)
    commit_twelve f (OfCommit.crowds others they many) = omega arith
    commit_twelve f (OfCommit.fills others they full) = omega arith

    same_changes : (others : List NamedChange) → s.session k ≡ Some others → others ≡ changes
    same_changes others they = let e : Some others ≡ Some changes = sym they ∙ are in cc

    commit_thirteen : (IsCrowded (with_transaction changes s.history) → ⊥) → (f : Refusal) → OfCommit s k f → 13 ≤ rank f
    commit_thirteen fits f (OfCommit.want_ontology none) = absurd (some_or_none o (ontology_of s.history) has none)
    commit_thirteen fits f (OfCommit.want_session closed) = absurd (some_or_none changes (s.session k) are closed)
    commit_thirteen fits f (OfCommit.crowds others they many) = absurd (fits (subst (λ (cs : List NamedChange). IsCrowded (with_transaction cs s.history)) (same_changes others they) many))
    commit_thirteen fits f (OfCommit.fills others they full) = omega arith

    commit_accepted : (IsCrowded (with_transaction changes s.history) → ⊥) → used (with_transaction changes s.history) ≤ area_limit → (f : Refusal) → OfCommit s k f → ⊥
    commit_accepted fits room f (OfCommit.want_ontology none) = some_or_none o (ontology_of s.history) has none
    commit_accepted fits room f (OfCommit.want_session closed) = some_or_none changes (s.session k) are closed
    commit_accepted fits room f (OfCommit.crowds others they many) = fits (subst (λ (cs : List NamedChange). IsCrowded (with_transaction cs s.history)) (same_changes others they) many)
    commit_accepted fits room f (OfCommit.fills others they full) =
        let full' : area_limit < used (with_transaction changes s.history) = subst (λ (cs : List NamedChange). area_limit < used (with_transaction cs s.history)) (same_changes others they) full in
        omega (arith, full', room)

pub commit_refusals : CommitRefusals
commit_refusals s k o has = (
  λ closed. record { holds = RefusalHolds.not_open k NeedsOpen.commit closed; first = λ f h. commit_eight s k o has f (of_commit s k f h) },
  λ changes are many. record { holds = RefusalHolds.crowded changes are many; first = λ f h. commit_twelve s k o has changes are f (of_commit s k f h) },
  λ changes are fits full. record { holds = RefusalHolds.transaction_full changes are full; first = λ f h. commit_thirteen s k o has changes are fits f (of_commit s k f h) },
  λ changes are fits room f h. commit_accepted s k o has changes are fits room f (of_commit s k f h),
)

-- ---- abort

abort_eight : (s : MachineState) (k : ℕ) (o : Terminology) (f : Refusal) → ontology_of s.history ≡ Some o → RefusalHolds s (request.Plain (command.Abort k)) f → 8 ≤ rank f
abort_eight s k o f has (RefusalHolds.no_ontology needs none) = absurd (some_or_none o (ontology_of s.history) has none)
abort_eight s k o f has (RefusalHolds.not_open l needs closed) = omega arith
abort_eight s k o f has (RefusalHolds.unknown_name p l x its appends lacks) = elim appends [ ]
abort_eight s k o f has (RefusalHolds.pending l x changes appends are many) = elim appends [ ]
abort_eight s k o f has (RefusalHolds.unknown_in_query p x its poses lacks) = elim poses [ ]
abort_eight s k o f has (RefusalHolds.never_given j uses never) = elim uses [ ]
abort_eight s k o f has (RefusalHolds.dropped j uses dropped) = elim uses [ ]

abort_accepted : (s : MachineState) (k : ℕ) (o : Terminology) (changes : List NamedChange) (f : Refusal) → ontology_of s.history ≡ Some o → s.session k ≡ Some changes
    → RefusalHolds s (request.Plain (command.Abort k)) f → ⊥
abort_accepted s k o changes f has are (RefusalHolds.no_ontology needs none) = some_or_none o (ontology_of s.history) has none
abort_accepted s k o changes f has are (RefusalHolds.not_open l NeedsOpen.abort closed) = some_or_none changes (s.session k) are closed
abort_accepted s k o changes f has are (RefusalHolds.unknown_name p l x its appends lacks) = elim appends [ ]
abort_accepted s k o changes f has are (RefusalHolds.pending l x others appends they many) = elim appends [ ]
abort_accepted s k o changes f has are (RefusalHolds.unknown_in_query p x its poses lacks) = elim poses [ ]
abort_accepted s k o changes f has are (RefusalHolds.never_given j uses never) = elim uses [ ]
abort_accepted s k o changes f has are (RefusalHolds.dropped j uses dropped) = elim uses [ ]

pub abort_refusals : AbortRefusals
abort_refusals s k o has = (
  λ closed. record { holds = RefusalHolds.not_open k NeedsOpen.abort closed; first = λ f h. abort_eight s k o f has h },
  λ changes are f h. abort_accepted s k o changes f has are h,
)

-- ---- ask

ask_ten : (s : MachineState) (q : Question) (o : Terminology) (f : Refusal) → ontology_of s.history ≡ Some o → RefusalHolds s (request.Plain (command.Ask q)) f → 10 ≤ rank f
ask_ten s q o f has (RefusalHolds.no_ontology needs none) = absurd (some_or_none o (ontology_of s.history) has none)
ask_ten s q o f has (RefusalHolds.not_open l needs closed) = elim needs [ ]
ask_ten s q o f has (RefusalHolds.unknown_name p l x its appends lacks) = elim appends [ ]
ask_ten s q o f has (RefusalHolds.unknown_in_query p x its poses lacks) = omega (arith, rank_query p x f lacks)
ask_ten s q o f has (RefusalHolds.pending l x changes appends are many) = elim appends [ ]
ask_ten s q o f has (RefusalHolds.never_given j uses never) = elim uses [ ]
ask_ten s q o f has (RefusalHolds.dropped j uses dropped) = elim uses [ ]

known_no_fault : (o : Terminology) (atoms : List Atom) (e : ShapeError) → NamesUnknown e → All (IsKnown o) atoms → IsFirstFault o atoms e → ⊥
known_no_fault o atoms e tells known fault =
    not_known o fault.atom e tells fault.fault
    (subst (IsKnown o) (get_or_from_slice_get atoms fault.place fault.atom fault.atom fault.there) (known fault.place fault.atom (slice_get_within atoms fault.place fault.atom fault.there)))

pub known_none_lacked : (o : Terminology) (q : Question) (e : Refusal) → All (IsKnown o) q.atoms → LacksNameIn o q e → ⊥
known_none_lacked o q e known (LacksNameIn.concept fault) = known_no_fault o q.atoms _ tt known fault
known_none_lacked o q e known (LacksNameIn.role fault) = known_no_fault o q.atoms _ tt known fault

-- no name of the query is unknown in the ontology of the history
none_unknown : (s : MachineState) (q : Question) (o p : Terminology) (f : Refusal) → ontology_of s.history ≡ Some o → ontology_of s.history ≡ Some p → All (IsKnown o) q.atoms → LacksNameIn p q f → ⊥
none_unknown s q o p f has its known lacks = known_none_lacked p q f (subst (λ (t : Terminology). All (IsKnown t) q.atoms) (ontology_once s.history o p has its) known) lacks

ask_accepted : (s : MachineState) (q : Question) (o : Terminology) (f : Refusal) → ontology_of s.history ≡ Some o → All (IsKnown o) q.atoms → RefusalHolds s (request.Plain (command.Ask q)) f → ⊥
ask_accepted s q o f has known (RefusalHolds.no_ontology needs none) = some_or_none o (ontology_of s.history) has none
ask_accepted s q o f has known (RefusalHolds.not_open l needs closed) = elim needs [ ]
ask_accepted s q o f has known (RefusalHolds.unknown_name p l x its appends lacks) = elim appends [ ]
ask_accepted s q o f has known (RefusalHolds.unknown_in_query p x its PosesQuery.ask lacks) = none_unknown s q o p f has its known lacks
ask_accepted s q o f has known (RefusalHolds.pending l x changes appends are many) = elim appends [ ]
ask_accepted s q o f has known (RefusalHolds.never_given j uses never) = elim uses [ ]
ask_accepted s q o f has known (RefusalHolds.dropped j uses dropped) = elim uses [ ]

pub name_lacked : (s : MachineState) (q : Question) (o : Terminology) (e : Refusal) → ontology_of s.history ≡ Some o → LacksNameIn o q e → IsRefusedFor s (request.Plain (command.Ask q)) e
name_lacked s q o e has lacks = record {
  holds = RefusalHolds.unknown_in_query o q has PosesQuery.ask lacks;
  first = λ f h. subst (λ (n : ℕ). n ≤ rank f) (sym (rank_query o q e lacks)) (ask_ten s q o f has h);
}

here : (front : List Atom) (a : Atom) (more : List Atom) → slice_get (front ++ a ∷ more) (length front) ≡ Some a
here [] a more = refl
here (x ∷ front) a more = here front a more

cut : (front more : List Atom) → take (length front) (front ++ more) ≡ front
cut [] more = refl
cut (x ∷ front) more = ap (λ (xs : List Atom). x ∷ xs) (cut front more)

-- the fault of an atom behind known ones
fault_behind : (o : Terminology) (atoms front more : List Atom) (a : Atom) (e : ShapeError) → atoms ≡ front ++ a ∷ more → All (IsKnown o) front → IsAtomFault o a e → IsFirstFault o atoms e
fault_behind o atoms front more a e is known fault = record {
  place = length front;
  atom = a;
  there = ap (λ (xs : List Atom). slice_get xs (length front)) is ∙ here front a more;
  fault = fault;
  before = subst (All (IsKnown o)) (sym (ap (λ (xs : List Atom). take (length front) xs) is ∙ cut front (a ∷ more))) known;
}

pub ask_refusals : AskRefusals
ask_refusals s q o has = (
  λ front more name t is known lacks.
      name_lacked s q o (refusal.UnknownConcept name) has (LacksNameIn.concept (fault_behind o q.atoms front more (atom.Concept name t) (unknown.UnknownConcept name) is known (refl, lacks))),
  λ front more name t u is known lacks.
      name_lacked s q o (refusal.UnknownRole name) has (LacksNameIn.role (fault_behind o q.atoms front more (atom.Role name t u) (unknown.UnknownRole name) is known (refl, lacks))),
  λ known f h. ask_accepted s q o f has known h,
)

-- ---- prepare

prepare_ten : (s : MachineState) (q : Question) (o : Terminology) (f : Refusal) → ontology_of s.history ≡ Some o → RefusalHolds s (request.Plain (command.Prepare q)) f → 10 ≤ rank f
prepare_ten s q o f has (RefusalHolds.no_ontology needs none) = absurd (some_or_none o (ontology_of s.history) has none)
prepare_ten s q o f has (RefusalHolds.not_open l needs closed) = elim needs [ ]
prepare_ten s q o f has (RefusalHolds.unknown_name p l x its appends lacks) = elim appends [ ]
prepare_ten s q o f has (RefusalHolds.unknown_in_query p x its poses lacks) = omega (arith, rank_query p x f lacks)
prepare_ten s q o f has (RefusalHolds.pending l x changes appends are many) = elim appends [ ]
prepare_ten s q o f has (RefusalHolds.never_given j uses never) = elim uses [ ]
prepare_ten s q o f has (RefusalHolds.dropped j uses dropped) = elim uses [ ]
prepare_ten s q o f has (RefusalHolds.no_slot full) = omega arith

-- where all names of the query are known only the room may be lacking
prepare_full : (s : MachineState) (q : Question) (o : Terminology) (f : Refusal) → ontology_of s.history ≡ Some o → All (IsKnown o) q.atoms → RefusalHolds s (request.Plain (command.Prepare q)) f
    → (f ≡ refusal.NoSlot) × (room_of s.handles ≡ 0)
prepare_full s q o f has known (RefusalHolds.no_ontology needs none) = absurd (some_or_none o (ontology_of s.history) has none)
prepare_full s q o f has known (RefusalHolds.not_open l needs closed) = elim needs [ ]
prepare_full s q o f has known (RefusalHolds.unknown_name p l x its appends lacks) = elim appends [ ]
prepare_full s q o f has known (RefusalHolds.unknown_in_query p x its PosesQuery.prepare lacks) = absurd (none_unknown s q o p f has its known lacks)
prepare_full s q o f has known (RefusalHolds.pending l x changes appends are many) = elim appends [ ]
prepare_full s q o f has known (RefusalHolds.never_given j uses never) = elim uses [ ]
prepare_full s q o f has known (RefusalHolds.dropped j uses dropped) = elim uses [ ]
prepare_full s q o f has known (RefusalHolds.no_slot full) = (refl, full)

pub prepared_name_lacked : (s : MachineState) (q : Question) (o : Terminology) (e : Refusal) → ontology_of s.history ≡ Some o → LacksNameIn o q e → IsRefusedFor s (request.Plain (command.Prepare q)) e
prepared_name_lacked s q o e has lacks = record {
  holds = RefusalHolds.unknown_in_query o q has PosesQuery.prepare lacks;
  first = λ f h. subst (λ (n : ℕ). n ≤ rank f) (sym (rank_query o q e lacks)) (prepare_ten s q o f has h);
}

pub prepare_refusals : PrepareRefusals
prepare_refusals s q o has = (
  λ front more name t is known lacks.
      prepared_name_lacked s q o (refusal.UnknownConcept name) has (LacksNameIn.concept (fault_behind o q.atoms front more (atom.Concept name t) (unknown.UnknownConcept name) is known (refl, lacks))),
  λ front more name t u is known lacks.
      prepared_name_lacked s q o (refusal.UnknownRole name) has (LacksNameIn.role (fault_behind o q.atoms front more (atom.Role name t u) (unknown.UnknownRole name) is known (refl, lacks))),
  λ known full. record {
    holds = RefusalHolds.no_slot full;
    first = λ f h. let same : rank f ≡ 16 = ap rank (prepare_full s q o f has known h).0 in omega (arith, same);
  },
  λ known room f h. (let full = (prepare_full s q o f has known h).1 in omega (arith, full, room)),
)

-- ---- run and drop

-- what may hold of them
pub data OfHandle (s : MachineState) (h : Handle) : Refusal → Type 0 where
  want_ontology : ontology_of s.history ≡ None → OfHandle s h refusal.NoOntology
  not_given : IsGone s.handles h gone.Never → OfHandle s h refusal.NeverGiven
  was_dropped : {last : ℕ} → IsGone s.handles h (gone.Dropped last) → OfHandle s h (refusal.Dropped last)

pub of_handle : (s : MachineState) (c : Command) (h : Handle) (f : Refusal) → UsesHandle c h → RefusalHolds s (request.Plain c) f → OfHandle s h f
of_handle s c h f UsesHandle.run (RefusalHolds.no_ontology needs none) = OfHandle.want_ontology none
of_handle s c h f UsesHandle.run (RefusalHolds.not_open l needs closed) = elim needs [ ]
of_handle s c h f UsesHandle.run (RefusalHolds.unknown_name p l x its appends lacks) = elim appends [ ]
of_handle s c h f UsesHandle.run (RefusalHolds.unknown_in_query p x its poses lacks) = elim poses [ ]
of_handle s c h f UsesHandle.run (RefusalHolds.pending l x changes appends are many) = elim appends [ ]
of_handle s c h f UsesHandle.run (RefusalHolds.never_given j UsesHandle.run is) = OfHandle.not_given is
of_handle s c h f UsesHandle.run (RefusalHolds.dropped j UsesHandle.run is) = OfHandle.was_dropped is
of_handle s c h f UsesHandle.drop (RefusalHolds.no_ontology needs none) = OfHandle.want_ontology none
of_handle s c h f UsesHandle.drop (RefusalHolds.not_open l needs closed) = elim needs [ ]
of_handle s c h f UsesHandle.drop (RefusalHolds.unknown_name p l x its appends lacks) = elim appends [ ]
of_handle s c h f UsesHandle.drop (RefusalHolds.unknown_in_query p x its poses lacks) = elim poses [ ]
of_handle s c h f UsesHandle.drop (RefusalHolds.pending l x changes appends are many) = elim appends [ ]
of_handle s c h f UsesHandle.drop (RefusalHolds.never_given j UsesHandle.drop is) = OfHandle.not_given is
of_handle s c h f UsesHandle.drop (RefusalHolds.dropped j UsesHandle.drop is) = OfHandle.was_dropped is

module _ (s : MachineState) (h : Handle) (o : Terminology) (has : ontology_of s.history ≡ Some o) where
  never_first : (f : Refusal) → OfHandle s h f → 14 ≤ rank f
  never_first f (OfHandle.want_ontology none) = absurd (some_or_none o (ontology_of s.history) has none)
  never_first f (OfHandle.not_given is) = omega arith
  never_first f (OfHandle.was_dropped is) = omega arith

  dropped_first : (last : ℕ) → IsGone s.handles h (gone.Dropped last) → (f : Refusal) → OfHandle s h f → 15 ≤ rank f
  dropped_first last was f (OfHandle.want_ontology none) = absurd (some_or_none o (ontology_of s.history) has none)
  dropped_first last was f (OfHandle.not_given is) = absurd (is was.0.given)
  dropped_first last was f (OfHandle.was_dropped is) = omega arith

  live_accepted : IsHandleStore s.handles → IsLive s.handles h → (f : Refusal) → OfHandle s h f → ⊥
  live_accepted store live f (OfHandle.want_ontology none) = some_or_none o (ontology_of s.history) has none
  live_accepted store live f (OfHandle.not_given is) = gone_is_not_live s.handles h gone.Never store is live
  live_accepted store live f (OfHandle.was_dropped {last = last} is) = gone_is_not_live s.handles h (gone.Dropped last) store is live

-- `run` and `drop`, by the handle that they use
abbrev pub OfUsing : Type 0
OfUsing = (s : MachineState) (c : Command) (h : Handle) (o : Terminology) → UsesHandle c h → ontology_of s.history ≡ Some o
    → (IsGone s.handles h gone.Never → IsRefusedFor s (request.Plain c) refusal.NeverGiven)
    × ((last : ℕ) → IsGone s.handles h (gone.Dropped last) → IsRefusedFor s (request.Plain c) (refusal.Dropped last))
    × (IsHandleStore s.handles → IsLive s.handles h → IsAccepted s (request.Plain c))

pub of_using : OfUsing
of_using s c h o uses has = (
  λ is. record { holds = RefusalHolds.never_given h uses is; first = λ f x. never_first s h o has f (of_handle s c h f uses x) },
  λ last is. record { holds = RefusalHolds.dropped h uses is; first = λ f x. dropped_first s h o has last is f (of_handle s c h f uses x) },
  λ store live f x. live_accepted s h o has store live f (of_handle s c h f uses x),
)

using_handle : (c : Command) (h : Handle) → (c ≡ command.Run h) ⊎ (c ≡ command.Drop h) → UsesHandle c h
using_handle c h (inl e) = subst (λ (d : Command). UsesHandle d h) (sym e) UsesHandle.run
using_handle c h (inr e) = subst (λ (d : Command). UsesHandle d h) (sym e) UsesHandle.drop

pub handle_refusals : HandleRefusals
handle_refusals s c h o either has = of_using s c h o (using_handle c h either) has

-- ---- check, tables, tidy and reopen

check_accepted : (s : MachineState) (o : Terminology) (f : Refusal) → ontology_of s.history ≡ Some o → RefusalHolds s (request.Plain command.Check) f → ⊥
check_accepted s o f has (RefusalHolds.no_ontology needs none) = some_or_none o (ontology_of s.history) has none
check_accepted s o f has (RefusalHolds.not_open l needs closed) = elim needs [ ]
check_accepted s o f has (RefusalHolds.unknown_name p l x its appends lacks) = elim appends [ ]
check_accepted s o f has (RefusalHolds.pending l x changes appends are many) = elim appends [ ]
check_accepted s o f has (RefusalHolds.unknown_in_query p x its poses lacks) = elim poses [ ]
check_accepted s o f has (RefusalHolds.never_given j uses never) = elim uses [ ]
check_accepted s o f has (RefusalHolds.dropped j uses dropped) = elim uses [ ]

tables_accepted : (s : MachineState) (o : Terminology) (f : Refusal) → ontology_of s.history ≡ Some o → RefusalHolds s (request.Plain command.Tables) f → ⊥
tables_accepted s o f has (RefusalHolds.no_ontology needs none) = some_or_none o (ontology_of s.history) has none
tables_accepted s o f has (RefusalHolds.not_open l needs closed) = elim needs [ ]
tables_accepted s o f has (RefusalHolds.unknown_name p l x its appends lacks) = elim appends [ ]
tables_accepted s o f has (RefusalHolds.pending l x changes appends are many) = elim appends [ ]
tables_accepted s o f has (RefusalHolds.unknown_in_query p x its poses lacks) = elim poses [ ]
tables_accepted s o f has (RefusalHolds.never_given j uses never) = elim uses [ ]
tables_accepted s o f has (RefusalHolds.dropped j uses dropped) = elim uses [ ]

tidy_accepted : (s : MachineState) (f : Refusal) → RefusalHolds s (request.Plain command.Tidy) f → ⊥
tidy_accepted s f (RefusalHolds.no_ontology needs none) = needs
tidy_accepted s f (RefusalHolds.not_open l needs closed) = elim needs [ ]
tidy_accepted s f (RefusalHolds.unknown_name p l x its appends lacks) = elim appends [ ]
tidy_accepted s f (RefusalHolds.pending l x changes appends are many) = elim appends [ ]
tidy_accepted s f (RefusalHolds.unknown_in_query p x its poses lacks) = elim poses [ ]
tidy_accepted s f (RefusalHolds.never_given j uses never) = elim uses [ ]
tidy_accepted s f (RefusalHolds.dropped j uses dropped) = elim uses [ ]

reopen_accepted : (s : MachineState) (f : Refusal) → RefusalHolds s (request.Plain command.Reopen) f → ⊥
reopen_accepted s f (RefusalHolds.no_ontology needs none) = needs
reopen_accepted s f (RefusalHolds.not_open l needs closed) = elim needs [ ]
reopen_accepted s f (RefusalHolds.unknown_name p l x its appends lacks) = elim appends [ ]
reopen_accepted s f (RefusalHolds.pending l x changes appends are many) = elim appends [ ]
reopen_accepted s f (RefusalHolds.unknown_in_query p x its poses lacks) = elim poses [ ]
reopen_accepted s f (RefusalHolds.never_given j uses never) = elim uses [ ]
reopen_accepted s f (RefusalHolds.dropped j uses dropped) = elim uses [ ]

pub others_accepted : OthersAccepted
others_accepted s = (λ o has f h. check_accepted s o f has h, λ o has f h. tables_accepted s o f has h, tidy_accepted s, reopen_accepted s)
