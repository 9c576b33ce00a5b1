-- Each request is refused or accepted.
use Rattle.std.proofs.Common.{◌≡◌, ℕ, suc, ◌<◌, ◌≤◌, ◌⊎◌, inl, inr, List, [], ◌∷◌, length, take, All, Option, Some, None, Result, Ok, Err, refl, arith}
use Rattle.std.proofs.lemmas.List.Elements.{All-cons, All-nil}
use Rattle.dl_base.specs.Ontology.{Terminology}
use Rattle.dl_base.specs.Query.{Question}
use Rattle.dl_base.specs.declared.query.Atom.{Atom}
use Rattle.dl_base.specs.declared.query.Atom.TheVariants as atom
use Rattle.dl_base.specs.declared.row.NamedRow.{NamedRow}
use Rattle.dl_base.specs.declared.row.NamedRow.TheVariants as row
use Rattle.dl_base.specs.declared.row.NamedChange.{NamedChange}
use Rattle.axiom_reader.specs.declared.block.BlockError.{BlockError}
use Rattle.gen_arena.specs.Store.{IsGone, IsLive, WasGiven, room_of}
use Rattle.gen_arena.specs.declared.handle.Handle.{Handle}
use Rattle.gen_arena.specs.declared.handle.Gone.{Gone}
use Rattle.gen_arena.specs.declared.handle.Gone.TheVariants as gone
use Rattle.base_engine.proofs.HandleLemmas.{live_or_gone}
use Rattle.query_shape.specs.ShapeFault.{IsAtomFault, IsFirstFault, IsKnown}
use Rattle.query_shape.specs.declared.numbering.ShapeError.{ShapeError}
use Rattle.query_shape.specs.declared.numbering.ShapeError.TheVariants as unknown
use Rattle.query_shape.proofs.MatchList.{Decided, decide_member}
use Rattle.base_store.specs.Area.{area_limit}
use Rattle.base_store.specs.History.{used, with_ontology, with_transaction, ontology_of}
use Rattle.dl_base.specs.Numbers.{IsNamedBy}
use Rattle.base_store.specs.Legal.{IsCrowded}
use Rattle.reply_text.specs.declared.reply.Refusal.{Refusal}
use Rattle.reply_text.specs.declared.reply.Refusal.TheVariants as refusal
use Rattle.script_reader.specs.declared.command.Command.{Command}
use Rattle.script_reader.specs.declared.command.Command.TheVariants as command
use Rattle.script_reader.specs.declared.request.Request.{Request}
use Rattle.script_reader.specs.declared.request.Request.TheVariants as request
use Rattle.base_engine.specs.State.{MachineState}
use Rattle.base_engine.specs.Refusals.{AppendsChange, IsAccepted, IsRefusedFor, LacksNameOf, LacksNameIn, RefusalHolds, UsesHandle}
use Rattle.base_engine.proofs.RefusalTable.{OfHandle, abort_refusals, ask_refusals, begin_refusals, block_refusals, of_appending, of_handle, of_using, commit_refusals, line_refusals, name_lacked, no_ontology, others_accepted, prepare_refusals, prepared_name_lacked, some_or_none}
use Rattle.base_engine.proofs.RowsThere.{above, decide_crowded, decide_name}

abbrev Verdict : MachineState → Request → Type 0
Verdict s q = ((e : Refusal) × IsRefusedFor s q e) ⊎ IsAccepted s q

-- ---- a command that says nothing, or opens a block, is no request: no refusal holds of it

blank_accepted : (s : MachineState) (f : Refusal) → RefusalHolds s (request.Plain command.Blank) f → ⊥
blank_accepted s f (RefusalHolds.no_ontology needs none) = needs
blank_accepted s f (RefusalHolds.not_open l needs closed) = elim needs [ ]
blank_accepted s f (RefusalHolds.unknown_name p l x its appends lacks) = elim appends [ ]
blank_accepted s f (RefusalHolds.pending l x changes appends are many) = elim appends [ ]
blank_accepted s f (RefusalHolds.unknown_in_query p x its poses lacks) = elim poses [ ]
blank_accepted s f (RefusalHolds.never_given j uses never) = elim uses [ ]
blank_accepted s f (RefusalHolds.dropped j uses dropped) = elim uses [ ]

opening_accepted : (s : MachineState) (f : Refusal) → RefusalHolds s (request.Plain command.Ontology) f → ⊥
opening_accepted s f (RefusalHolds.no_ontology needs none) = needs
opening_accepted s f (RefusalHolds.not_open l needs closed) = elim needs [ ]
opening_accepted s f (RefusalHolds.unknown_name p l x its appends lacks) = elim appends [ ]
opening_accepted s f (RefusalHolds.pending l x changes appends are many) = elim appends [ ]
opening_accepted s f (RefusalHolds.unknown_in_query p x its poses lacks) = elim poses [ ]
opening_accepted s f (RefusalHolds.never_given j uses never) = elim uses [ ]
opening_accepted s f (RefusalHolds.dropped j uses dropped) = elim uses [ ]

-- ---- names

-- the ontology has the row's name, or it lacks it
named_or_lacked : (o : Terminology) (r : NamedRow) → IsNamedBy o r ⊎ ((e : Refusal) × LacksNameOf o r e)
named_or_lacked o (row.Concept c a) = elim (decide_member decide_name o.concepts c) [ inl has ↦ inl has | inr not ↦ inr (refusal.UnknownConcept c, LacksNameOf.concept not) ]
named_or_lacked o (row.Role p a b) = elim (decide_member decide_name o.roles p) [ inl has ↦ inl has | inr not ↦ inr (refusal.UnknownRole p, LacksNameOf.role not) ]

-- the error of an atom that the ontology doesn't know
abbrev error_of : Atom → ShapeError
error_of (atom.Concept name t) = unknown.UnknownConcept name
error_of (atom.Role name t u) = unknown.UnknownRole name

known_or_fault : (o : Terminology) (a : Atom) → IsKnown o a ⊎ IsAtomFault o a (error_of a)
known_or_fault o (atom.Concept name t) = elim (decide_member decide_name o.concepts name) [ inl has ↦ inl has | inr not ↦ inr (refl, not) ]
known_or_fault o (atom.Role name t u) = elim (decide_member decide_name o.roles name) [ inl has ↦ inl has | inr not ↦ inr (refl, not) ]

-- all atoms are known, or one of them is the first that isn't
first_unknown : (o : Terminology) (atoms : List Atom) → All (IsKnown o) atoms ⊎ ((a : Atom) × IsFirstFault o atoms (error_of a))
first_unknown o [] = inl (All-nil (IsKnown o))
first_unknown o (a ∷ atoms) = by (known_or_fault o a) (first_unknown o atoms)
  where
    by : IsKnown o a ⊎ IsAtomFault o a (error_of a) → All (IsKnown o) atoms ⊎ ((b : Atom) × IsFirstFault o atoms (error_of b))
        → All (IsKnown o) (a ∷ atoms) ⊎ ((b : Atom) × IsFirstFault o (a ∷ atoms) (error_of b))
    by (inr fault) rest = inr (a, record { place = 0; atom = a; there = refl; fault = fault; before = All-nil (IsKnown o) })
    by (inl known) (inl all) = inl (All-cons (IsKnown o) a atoms known all)
    by (inl known) (inr found) = inr (
      found.0,
      record {
        place = suc found.1.place;
        atom = found.1.atom;
        there = found.1.there;
        fault = found.1.fault;
        before = All-cons (IsKnown o) a (take found.1.place atoms) known found.1.before;
      },
    )

query_refusal : (o : Terminology) (q : Question) (a : Atom) → IsFirstFault o q.atoms (error_of a) → (e : Refusal) × LacksNameIn o q e
query_refusal o q (atom.Concept name t) fault = (refusal.UnknownConcept name, LacksNameIn.concept fault)
query_refusal o q (atom.Role name t u) fault = (refusal.UnknownRole name, LacksNameIn.role fault)

-- ---- each kind of request

module _ (s : MachineState) where
  block_verdict : (o : Terminology) → ontology_of s.history ≡ None → (area_limit < used (with_ontology o s.history)) ⊎ (used (with_ontology o s.history) ≤ area_limit) → Verdict s (request.Block (Ok o))
  block_verdict o none (inl full) = inl (refusal.LogFull, (block_refusals s).2 o none full)
  block_verdict o none (inr fits) = inr ((block_refusals s).3 o none fits)

  verdict_of_block : (result : Result Terminology BlockError) (found : Option Terminology) → ontology_of s.history ≡ found → Verdict s (request.Block result)
  verdict_of_block result (Some p) e = inl (refusal.OntologyThere, (block_refusals s).0 result p e)
  verdict_of_block (Ok o) None e = block_verdict o e (above area_limit (used (with_ontology o s.history)))
  verdict_of_block (Err x) None e = inl (refusal.Block x, (block_refusals s).1 x e)

  module _ (o : Terminology) (has : ontology_of s.history ≡ Some o) where
    begin_verdict : (k : ℕ) (found : Option (List NamedChange)) → s.session k ≡ found → Verdict s (request.Plain (command.Begin k))
    begin_verdict k (Some changes) e = inl (refusal.AlreadyOpen, (begin_refusals s k o has).0 changes e)
    begin_verdict k None e = inr ((begin_refusals s k o has).1 e)

    many_or_few : (c : Command) (k : ℕ) (r : NamedRow) → AppendsChange c k r → (changes : List NamedChange) → s.session k ≡ Some changes → IsNamedBy o r
        → (9999 < length changes) ⊎ (length changes ≤ 9999) → Verdict s (request.Plain c)
    many_or_few c k r appends changes are named (inl many) = inl (refusal.Pending, (of_appending s c k r o appends has).2 changes are named (omega (arith, many)))
    many_or_few c k r appends changes are named (inr few) = inr ((of_appending s c k r o appends has).3 changes are named (omega (arith, few)))

    named_verdict : (c : Command) (k : ℕ) (r : NamedRow) → AppendsChange c k r → (changes : List NamedChange) → s.session k ≡ Some changes
        → IsNamedBy o r ⊎ ((e : Refusal) × LacksNameOf o r e) → Verdict s (request.Plain c)
    named_verdict c k r appends changes are (inl named) = many_or_few c k r appends changes are named (above 9999 (length changes))
    named_verdict c k r appends changes are (inr lacks) = inl (lacks.0, (of_appending s c k r o appends has).1 changes lacks.0 are lacks.1)

    change_verdict : (c : Command) (k : ℕ) (r : NamedRow) → AppendsChange c k r → (found : Option (List NamedChange)) → s.session k ≡ found → Verdict s (request.Plain c)
    change_verdict c k r appends None e = inl (refusal.NotOpen, (of_appending s c k r o appends has).0 e)
    change_verdict c k r appends (Some changes) e = named_verdict c k r appends changes e (named_or_lacked o r)

    room_verdict : (k : ℕ) (changes : List NamedChange) → s.session k ≡ Some changes → Decided (IsCrowded (with_transaction changes s.history))
        → (area_limit < used (with_transaction changes s.history)) ⊎ (used (with_transaction changes s.history) ≤ area_limit) → Verdict s (request.Plain (command.Commit k))
    room_verdict k changes are (inl crowded) room = inl (refusal.Crowded, (commit_refusals s k o has).1 changes are crowded)
    room_verdict k changes are (inr fits) (inl full) = inl (refusal.LogFull, (commit_refusals s k o has).2 changes are fits full)
    room_verdict k changes are (inr fits) (inr room) = inr ((commit_refusals s k o has).3 changes are fits room)

    commit_verdict : (k : ℕ) (found : Option (List NamedChange)) → s.session k ≡ found → Verdict s (request.Plain (command.Commit k))
    commit_verdict k None e = inl (refusal.NotOpen, (commit_refusals s k o has).0 e)
    commit_verdict k (Some changes) e =
        room_verdict k changes e (decide_crowded (with_transaction changes s.history)) (above area_limit (used (with_transaction changes s.history)))

    abort_verdict : (k : ℕ) (found : Option (List NamedChange)) → s.session k ≡ found → Verdict s (request.Plain (command.Abort k))
    abort_verdict k None e = inl (refusal.NotOpen, (abort_refusals s k o has).0 e)
    abort_verdict k (Some changes) e = inr ((abort_refusals s k o has).1 changes e)

    ask_verdict : (q : Question) → All (IsKnown o) q.atoms ⊎ ((a : Atom) × IsFirstFault o q.atoms (error_of a)) → Verdict s (request.Plain (command.Ask q))
    ask_verdict q (inl known) = inr ((ask_refusals s q o has).2 known)
    ask_verdict q (inr found) = let lacks = query_refusal o q found.0 found.1 in inl (lacks.0, name_lacked s q o lacks.0 has lacks.1)

    room_or_full : (q : Question) → All (IsKnown o) q.atoms → (0 < room_of s.handles) ⊎ (room_of s.handles ≤ 0) → Verdict s (request.Plain (command.Prepare q))
    room_or_full q known (inl room) = inr ((prepare_refusals s q o has).3 known (omega (arith, room)))
    room_or_full q known (inr full) = inl (refusal.NoSlot, (prepare_refusals s q o has).2 known (omega (arith, full)))

    prepare_verdict : (q : Question) → All (IsKnown o) q.atoms ⊎ ((a : Atom) × IsFirstFault o q.atoms (error_of a)) → Verdict s (request.Plain (command.Prepare q))
    prepare_verdict q (inl known) = room_or_full q known (above 0 (room_of s.handles))
    prepare_verdict q (inr found) = let lacks = query_refusal o q found.0 found.1 in inl (lacks.0, prepared_name_lacked s q o lacks.0 has lacks.1)

    -- a handle that is live and was given is accepted
    given_live : (c : Command) (h : Handle) → UsesHandle c h → WasGiven s.handles h → IsLive s.handles h → IsAccepted s (request.Plain c)
    given_live c h uses given live f holds = by_handle f (of_handle s c h f uses holds)
      where
        by_handle : (e : Refusal) → OfHandle s h e → ⊥
        by_handle e (OfHandle.want_ontology none) = some_or_none o (ontology_of s.history) has none
        by_handle e (OfHandle.not_given is) = is given
        by_handle e (OfHandle.was_dropped is) = is.0.not_live live

    handle_verdict : (c : Command) (h : Handle) → UsesHandle c h → WasGiven s.handles h × IsLive s.handles h ⊎ ((why : Gone) × IsGone s.handles h why) → Verdict s (request.Plain c)
    handle_verdict c h uses (inl x) = inr (given_live c h uses x.0 x.1)
    handle_verdict c h uses (inr (gone.Never, is)) = inl (refusal.NeverGiven, (of_using s c h o uses has).0 is)
    handle_verdict c h uses (inr (gone.Dropped last, is)) = inl (refusal.Dropped last, (of_using s c h o uses has).1 last is)

  -- a command where there is an ontology or none
  verdict_of_command : (c : Command) (found : Option Terminology) → ontology_of s.history ≡ found → Verdict s (request.Plain c)
  verdict_of_command command.Blank found e = inr (blank_accepted s)
  verdict_of_command command.Ontology found e = inr (opening_accepted s)
  verdict_of_command (command.Begin k) None e = inl (refusal.NoOntology, no_ontology s (command.Begin k) tt e)
  verdict_of_command (command.Begin k) (Some o) e = begin_verdict o e k (s.session k) refl
  verdict_of_command (command.Add k r) None e = inl (refusal.NoOntology, no_ontology s (command.Add k r) tt e)
  verdict_of_command (command.Add k r) (Some o) e = change_verdict o e (command.Add k r) k r AppendsChange.add (s.session k) refl
  verdict_of_command (command.Del k r) None e = inl (refusal.NoOntology, no_ontology s (command.Del k r) tt e)
  verdict_of_command (command.Del k r) (Some o) e = change_verdict o e (command.Del k r) k r AppendsChange.del (s.session k) refl
  verdict_of_command (command.Commit k) None e = inl (refusal.NoOntology, no_ontology s (command.Commit k) tt e)
  verdict_of_command (command.Commit k) (Some o) e = commit_verdict o e k (s.session k) refl
  verdict_of_command (command.Abort k) None e = inl (refusal.NoOntology, no_ontology s (command.Abort k) tt e)
  verdict_of_command (command.Abort k) (Some o) e = abort_verdict o e k (s.session k) refl
  verdict_of_command (command.Ask q) None e = inl (refusal.NoOntology, no_ontology s (command.Ask q) tt e)
  verdict_of_command (command.Ask q) (Some o) e = ask_verdict o e q (first_unknown o q.atoms)
  verdict_of_command (command.Prepare q) None e = inl (refusal.NoOntology, no_ontology s (command.Prepare q) tt e)
  verdict_of_command (command.Prepare q) (Some o) e = prepare_verdict o e q (first_unknown o q.atoms)
  verdict_of_command (command.Run h) None e = inl (refusal.NoOntology, no_ontology s (command.Run h) tt e)
  verdict_of_command (command.Run h) (Some o) e = handle_verdict o e (command.Run h) h UsesHandle.run (live_or_gone s.handles h)
  verdict_of_command (command.Drop h) None e = inl (refusal.NoOntology, no_ontology s (command.Drop h) tt e)
  verdict_of_command (command.Drop h) (Some o) e = handle_verdict o e (command.Drop h) h UsesHandle.drop (live_or_gone s.handles h)
  verdict_of_command command.Check None e = inl (refusal.NoOntology, no_ontology s command.Check tt e)
  verdict_of_command command.Check (Some o) e = inr ((others_accepted s).0 o e)
  verdict_of_command command.Tables None e = inl (refusal.NoOntology, no_ontology s command.Tables tt e)
  verdict_of_command command.Tables (Some o) e = inr ((others_accepted s).1 o e)
  verdict_of_command command.Tidy found e = inr (others_accepted s).2
  verdict_of_command command.Reopen found e = inr (others_accepted s).3

pub refused_or_accepted : (s : MachineState) (q : Request) → Verdict s q
refused_or_accepted s (request.Plain c) = verdict_of_command s c (ontology_of s.history) refl
refused_or_accepted s (request.Block result) = verdict_of_block s result (ontology_of s.history) refl
refused_or_accepted s (request.Bad e) = inl (e, line_refusals s e)
