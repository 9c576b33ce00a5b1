-- Laws of a draft that takes a line, by what the line says.
use Rattle.std.proofs.Common.{◌≡◌, ℕ, inl, inr, List, [], ◌∷◌, ◌++◌, length, All, Contains, Option, Some, None, Bool, true, false, refl, sym, ◌∙◌, ap, subst}
use Rattle.std.specs.Prelude.{IsSome, is_some, Err, MatchBool}
use Rattle.std.specs.Option.{ForSome}
use Rattle.host_io.specs.Causes.{raised}
use Rattle.dl_base.specs.Ontology.{Terminology}
use Rattle.dl_base.specs.Axiom.{Statement, Passes, IsExtended, Extends}
use Rattle.dl_base.specs.Query.{Question, IsQuery}
use Rattle.dl_base.specs.declared.ontology.ExtendError.{ExtendError}
use Rattle.dl_base.specs.declared.ontology.ExtendError.TheVariants as errors
use Rattle.dl_base.specs.declared.ontology.Which.{Which}
use Rattle.dl_base.specs.declared.row.NamedRow.{NamedRow}
use Rattle.dl_base.specs.declared.row.NamedRow.TheVariants as row
use Rattle.cq_reader.specs.QueryLimits.{IsTooLarge, IsFirstUnbound}
use Rattle.cq_reader.proofs.TermCounts.{small_not_too_large}
use Rattle.query_shape.specs.ShapeFault.{IsKnown, IsFirstFault}
use Rattle.query_shape.specs.declared.numbering.ShapeError.TheVariants as shape_errors
use Rattle.script_reader.specs.DocLines.{IsDocLine, IsFaultOf}
use Rattle.script_reader.specs.declared.doc_line.CommandError.{CommandError}
use Rattle.script_reader.specs.declared.doc_line.CommandError.TheVariants as commands
use Rattle.script_reader.specs.declared.doc_line.DocLine.{DocLine}
use Rattle.script_reader.specs.declared.doc_line.DocLine.TheVariants as line
use Rattle.dl_base.specs.Numbers.{IsNamedBy, IsPlaceOf}
use Rattle.document_run.specs.Facts.{KeepsFacts}
use Rattle.document_run.specs.declared.document.Draft.TheVariants as drafts
use Rattle.document_run.specs.Document.{Context, nothing_said, with_line, IsOutOfOrder, AsksTooMuch, IsUnsafe, TooManyFacts, FirstOffence, rank_of}
use Rattle.document_run.specs.Drafting.{KeepsOntology, KeepsPartial, NextText, IsAskable, IsAskFault, unknown_of}
use Rattle.document_run.specs.declared.facts.Facts.{Facts}
use Rattle.document_run.specs.declared.reason.Reason.{Reason}
use Rattle.document_run.specs.declared.reason.Reason.TheVariants as reason
use Rattle.document_run.specs.declared.document.Partial.{Partial}
use Rattle.document_run.proofs.ReasonLemmas.{NoneBelow, HoldsFor, none_misplaced, none_limit, none_large, none_unsafe, none_concept, none_role, none_facts, none_holds}
use Rattle.document_run.proofs.OntologyLemmas.{ontology_more, ontology_same, axioms_fit, axioms_pass}
use Rattle.document_run.proofs.FactLemmas.{no_facts, some_facts, facts_of_none, facts_fit}
use Rattle.dl_base.proofs.PlaceLemmas.{member_at}
use Rattle.script_reader.proofs.QuerySafety.{not_large, not_unsafe}
use Rattle.document_run.proofs.QueryLemmas.{none_unknown, unknown_concept, unknown_role, not_both_first}
use Rattle.document_run.proofs.DraftLemmas.{refused_by, kept_more}
use Rattle.dl_base.specs.declared.query.Atom.TheVariants as atom

-- ---- no lines

pub kept_none : (o : Terminology) (facts : Facts) → KeepsOntology nothing_said o → KeepsFacts o [] facts
    → KeepsPartial [] (record { ontology = o; facts = facts; asked = None; lines = 0 })
kept_none o facts ontology are = record { said = nothing_said; accepted = refl; ontology = ontology; facts = are; asked = refl; askable = λ q some. absurd cc; number = refl }

-- ---- the query so far

asked_too : (asked query : Option Question) → asked ≡ query → is_some asked ≡ true → IsSome query
asked_too asked query same some = subst (λ (q : Option Question). IsSome q) same some

not_asked : (asked query : Option Question) → asked ≡ query → is_some asked ≡ false → IsSome query → ⊥
not_asked asked query same none some = let there : IsSome asked = subst (λ (q : Option Question). IsSome q) (sym same) some in cc

pub is_none : (asked : Option Question) → is_some asked ≡ false → asked ≡ None
is_none None none = refl
is_none (Some q) none = absurd cc

for_none : (P : Question → Type 0) (asked : Option Question) → asked ≡ None → ForSome asked P
for_none P asked none = λ q some. let e : None ≡ Some q = sym none ∙ some in absurd cc

for_this : (P : Question → Type 0) (q : Question) → P q → ForSome (Some q) P
for_this P q holds = λ r same. let e : q ≡ r = same_some q r same in subst P e holds
  where
    same_some : (x y : Question) → Some x ≡ Some y → x ≡ y
    same_some x y e = cc

-- ---- a fact by its form

-- the ontology's names are those of the axioms
module _ (said : Context) (o : Terminology) (k : KeepsOntology said o) where
  lacks_there : (r : NamedRow) → (IsNamedBy o r → ⊥) → HoldsFor said (line.Fact r) (unknown_of r)
  lacks_there (row.Concept c a) lacks = λ there. lacks (subst (λ (names : List (List ℕ)). Contains names c) (sym k.concepts) there)
  lacks_there (row.Role r a b) lacks = λ there. lacks (subst (λ (names : List (List ℕ)). Contains names r) (sym k.roles) there)

  named_concept : (r : NamedRow) → ((IsNamedBy o r → ⊥) → ⊥) → HoldsFor said (line.Fact r) reason.UnknownConcept → ⊥
  named_concept (row.Concept c a) named unknown = named (λ there. unknown (subst (λ (names : List (List ℕ)). Contains names c) k.concepts there))
  named_concept (row.Role r a b) named unknown = unknown

  named_role : (r : NamedRow) → ((IsNamedBy o r → ⊥) → ⊥) → HoldsFor said (line.Fact r) reason.UnknownRole → ⊥
  named_role (row.Concept c a) named unknown = unknown
  named_role (row.Role r a b) named unknown = named (λ there. unknown (subst (λ (names : List (List ℕ)). Contains names r) k.roles there))

none_unknown_before : (said : Context) (r : NamedRow) → (IsOutOfOrder said (line.Fact r) → ⊥) → NoneBelow (HoldsFor said (line.Fact r)) (rank_of (unknown_of r))
none_unknown_before said (row.Concept c a) ordered = none_concept said (line.Fact (row.Concept c a)) ordered (λ no'. no') (λ no'. no') (λ no'. no')
none_unknown_before said (row.Role r a b) ordered = none_role said (line.Fact (row.Role r a b)) ordered (λ no'. no') (λ no'. no') (λ no'. no') (λ no'. no')

module _ (lines : List (List ℕ)) (text : List ℕ) (r : NamedRow) (p : Partial) (next : NextText lines text p) (says : IsDocLine text (line.Fact r)) (ordered : IsOutOfOrder next.keeps.said (line.Fact r) → ⊥) where
  lacking : (IsNamedBy p.ontology r → ⊥) → FirstOffence (lines ++ text ∷ []) (raised p.lines) (unknown_of r)
  lacking lacks = refused_by lines text (line.Fact r) p next says (unknown_of r) (lacks_there next.keeps.said p.ontology next.keeps.ontology r lacks) (none_unknown_before next.keeps.said r ordered)

  module _ (named : (IsNamedBy p.ontology r → ⊥) → ⊥) where
    passing : TooManyFacts (next.keeps.said.facts ++ r ∷ []) → FirstOffence (lines ++ text ∷ []) (raised p.lines) reason.TooManyFacts
    passing many = refused_by lines text (line.Fact r) p next says reason.TooManyFacts many
        (none_facts next.keeps.said (line.Fact r) ordered (λ no'. no') (λ no'. no') (λ no'. no')
        (named_concept next.keeps.said p.ontology next.keeps.ontology r named) (named_role next.keeps.said p.ontology next.keeps.ontology r named))

    adding : (new : Facts) → KeepsFacts p.ontology (next.keeps.said.facts ++ r ∷ []) new
        → KeepsPartial (lines ++ text ∷ []) (record { ontology = p.ontology; facts = new; asked = p.asked; lines = raised p.lines })
    adding new facts = kept_more lines text (line.Fact r) p next says
        (none_holds next.keeps.said (line.Fact r) ordered (λ no'. no') (λ no'. no') (λ no'. no')
        (named_concept next.keeps.said p.ontology next.keeps.ontology r named) (named_role next.keeps.said p.ontology next.keeps.ontology r named)
        (facts_fit p.ontology (next.keeps.said.facts ++ r ∷ []) new facts))
        _ refl
        (ontology_same next.keeps.said (with_line next.keeps.said (line.Fact r)) p.ontology refl next.keeps.ontology)
        facts next.keeps.asked next.keeps.askable

module _ (lines : List (List ℕ)) (text : List ℕ) (p : Partial) (next : NextText lines text p) where
  said : Context
  said = next.keeps.said

  -- ---- nothing but a blank line

  pub blank_more : IsDocLine text line.Blank → KeepsPartial (lines ++ text ∷ []) (record { ontology = p.ontology; facts = p.facts; asked = p.asked; lines = raised p.lines })
  unfolding said
  blank_more says = kept_more lines text line.Blank p next says
      (none_holds said line.Blank (λ no'. no') (λ no'. no') (λ no'. no') (λ no'. no') (λ no'. no') (λ no'. no') (λ no'. no'))
      _ refl next.keeps.ontology next.keeps.facts next.keeps.asked next.keeps.askable

  -- ---- one more axiom

  module _ (a : Statement) (says : IsDocLine text (line.Axiom a)) where
    pub axiom_late : ((length p.facts.rows ≡ 0) × (p.asked ≡ None) → ⊥) → FirstOffence (lines ++ text ∷ []) (raised p.lines) reason.Misplaced
    unfolding said
    axiom_late late = refused_by lines text (line.Axiom a) p next says reason.Misplaced (by (is_some p.asked) refl) (none_misplaced said (line.Axiom a))
      where
        by : (t : Bool) → is_some p.asked ≡ t → IsOutOfOrder next.keeps.said (line.Axiom a)
        by true some = inr (asked_too p.asked next.keeps.said.query next.keeps.asked some)
        by false none = inl (some_facts p.ontology next.keeps.said.facts p.facts next.keeps.facts (λ zero. late (zero, is_none p.asked none)))

    module _ (zero : length p.facts.rows ≡ 0) (none : p.asked ≡ None) where
      no_fact : next.keeps.said.facts ≡ []
      no_fact = no_facts p.ontology next.keeps.said.facts p.facts next.keeps.facts zero

      in_order : IsOutOfOrder next.keeps.said (line.Axiom a) → ⊥
      in_order (inl some) = some no_fact
      in_order (inr some) = not_asked p.asked next.keeps.said.query next.keeps.asked (ap (λ (q : Option Question). is_some q) none) some

      pub axiom_passes : (w : Which) → Passes p.ontology a w → FirstOffence (lines ++ text ∷ []) (raised p.lines) reason.PassesLimit
      unfolding said
      axiom_passes w passes = refused_by lines text (line.Axiom a) p next says reason.PassesLimit (axioms_pass next.keeps.said p.ontology next.keeps.ontology a w passes)
          (none_limit said (line.Axiom a) in_order)

      pub axiom_more : (new : Terminology) → IsExtended p.ontology a new → KeepsPartial (lines ++ text ∷ []) (record { ontology = new; facts = p.facts; asked = p.asked; lines = raised p.lines })
      unfolding said
      axiom_more new extended = kept_more lines text (line.Axiom a) p next says
          (none_holds said (line.Axiom a) in_order (axioms_fit next.keeps.said p.ontology next.keeps.ontology a new extended) (λ no'. no') (λ no'. no') (λ no'. no') (λ no'. no') (λ no'. no'))
          _ refl
          (ontology_more next.keeps.said p.ontology next.keeps.ontology a new extended)
          (facts_of_none p.ontology new next.keeps.said.facts p.facts no_fact next.keeps.facts)
          next.keeps.asked
          (for_none (IsAskable new) p.asked none)

  -- ---- one more fact

  module _ (r : NamedRow) (says : IsDocLine text (line.Fact r)) where
    pub fact_late : is_some p.asked ≡ true → FirstOffence (lines ++ text ∷ []) (raised p.lines) reason.Misplaced
    unfolding said
    fact_late some = refused_by lines text (line.Fact r) p next says reason.Misplaced (asked_too p.asked next.keeps.said.query next.keeps.asked some) (none_misplaced said (line.Fact r))

    module _ (none : is_some p.asked ≡ false) where
      fact_order : IsOutOfOrder next.keeps.said (line.Fact r) → ⊥
      fact_order some = not_asked p.asked next.keeps.said.query next.keeps.asked none some

      -- no axiom names its concept or its role
      pub fact_unknown : (IsNamedBy p.ontology r → ⊥) → FirstOffence (lines ++ text ∷ []) (raised p.lines) (unknown_of r)
      fact_unknown lacks = lacking lines text r p next says fact_order lacks

      pub fact_passes : ((IsNamedBy p.ontology r → ⊥) → ⊥) → TooManyFacts (next.keeps.said.facts ++ r ∷ []) → FirstOffence (lines ++ text ∷ []) (raised p.lines) reason.TooManyFacts
      fact_passes named many = passing lines text r p next says fact_order named many

      pub fact_more : ((IsNamedBy p.ontology r → ⊥) → ⊥) → (new : Facts) → KeepsFacts p.ontology (next.keeps.said.facts ++ r ∷ []) new
          → KeepsPartial (lines ++ text ∷ []) (record { ontology = p.ontology; facts = new; asked = p.asked; lines = raised p.lines })
      fact_more named new facts = adding lines text r p next says fact_order named new facts

  -- ---- the query

  -- a query that is refused whatever stands before it
  pub ask_late : (d : DocLine) → IsDocLine text d → IsOutOfOrder next.keeps.said d → FirstOffence (lines ++ text ∷ []) (raised p.lines) reason.Misplaced
  unfolding said
  ask_late d says late = refused_by lines text d p next says reason.Misplaced late (none_misplaced said d)

  module _ (q : Question) (says : IsDocLine text (line.Ask q)) where
    pub query_late : is_some p.asked ≡ true → FirstOffence (lines ++ text ∷ []) (raised p.lines) reason.Misplaced
    query_late some = ask_late (line.Ask q) says (asked_too p.asked next.keeps.said.query next.keeps.asked some)

    module _ (none : is_some p.asked ≡ false) where
      query_order : IsOutOfOrder next.keeps.said (line.Ask q) → ⊥
      query_order some = not_asked p.asked next.keeps.said.query next.keeps.asked none some

      pub query_large : IsTooLarge q → FirstOffence (lines ++ text ∷ []) (raised p.lines) reason.TooLarge
      unfolding said
      query_large large = refused_by lines text (line.Ask q) p next says reason.TooLarge large (none_large said (line.Ask q) query_order (λ no'. no'))

      pub query_unsafe : (IsTooLarge q → ⊥) → (v : List ℕ) → IsFirstUnbound q v → FirstOffence (lines ++ text ∷ []) (raised p.lines) reason.Unsafe
      unfolding said
      query_unsafe small v first = refused_by lines text (line.Ask q) p next says reason.Unsafe (v, first) (none_unsafe said (line.Ask q) query_order (λ no'. no') small)

      module _ (is : IsQuery q) where
        no_unbound : IsUnsafe (line.Ask q) → ⊥
        no_unbound (v, first) = not_unsafe q v is first

        pub query_concept : (name : List ℕ) → IsFirstFault p.ontology q.atoms (shape_errors.UnknownConcept name) → FirstOffence (lines ++ text ∷ []) (raised p.lines) reason.UnknownConcept
        unfolding said
        query_concept name fault = refused_by lines text (line.Ask q) p next says reason.UnknownConcept (unknown_concept next.keeps.said p.ontology next.keeps.ontology q name fault)
            (none_concept said (line.Ask q) query_order (λ no'. no') (not_large q is) no_unbound)

        -- the first unknown atom is one
        pub query_role : (name : List ℕ) → IsFirstFault p.ontology q.atoms (shape_errors.UnknownRole name) → FirstOffence (lines ++ text ∷ []) (raised p.lines) reason.UnknownRole
        unfolding said
        query_role name fault =
            let found = unknown_role next.keeps.said p.ontology next.keeps.ontology q name fault in
            refused_by lines text (line.Ask q) p next says reason.UnknownRole found
            (none_role said (line.Ask q) query_order (λ no'. no') (not_large q is) no_unbound
            (λ other. not_both_first next.keeps.said.axioms q other.0 found.0 other.1 found.1 found.2 other.2 found.3))

        pub query_more : All (IsKnown p.ontology) q.atoms → KeepsPartial (lines ++ text ∷ []) (record { ontology = p.ontology; facts = p.facts; asked = Some q; lines = raised p.lines })
        unfolding said
        query_more known = kept_more lines text (line.Ask q) p next says
            (none_holds said (line.Ask q) query_order (λ no'. no') (not_large q is) no_unbound
            (λ found. none_unknown next.keeps.said p.ontology next.keeps.ontology q known (atom.Concept found.0 found.1) found.2)
            (λ found. none_unknown next.keeps.said p.ontology next.keeps.ontology q known (atom.Role found.0 found.1 found.2) found.3)
            (λ no'. no'))
            _ refl
            (ontology_same next.keeps.said (with_line next.keeps.said (line.Ask q)) p.ontology refl next.keeps.ontology)
            next.keeps.facts
            refl
            (for_this (IsAskable p.ontology) q (record { within = is; known = known }))

pub not_both : {b : Bool} → b ≡ false → b ≡ true → ⊥
not_both off on = cc

-- the limit that an error names
pub passes_as : (o : Terminology) (a : Statement) (e : ExtendError) (w : Which) → e ≡ errors.TooMany w → Extends o a (Err e) → Passes o a w
passes_as o a e w is extends = (subst (λ (x : ExtendError). Extends o a (Err x)) is extends).0

-- ---- a query that is refused whatever stands before it

module _ (lines : List (List ℕ)) (text : List ℕ) (p : Partial) (next : NextText lines text p) where
  -- what asks too much, or for a variable that no atom has, is a query, and only the one before it can make it late
  late_order : (d : DocLine) (P : DocLine → Type 0) → (P line.Blank → ⊥) → ((a : Statement) → P (line.Axiom a) → ⊥) → ((r : NamedRow) → P (line.Fact r) → ⊥) → P d
      → IsSome next.keeps.said.query → IsOutOfOrder next.keeps.said d
  late_order line.Blank P blank none_axiom none_fact is some = absurd (blank is)
  late_order (line.Axiom a) P blank none_axiom none_fact is some = absurd (none_axiom a is)
  late_order (line.Fact r) P blank none_axiom none_fact is some = absurd (none_fact r is)
  late_order (line.Ask q) P blank none_axiom none_fact is some = some

  large_order : (d : DocLine) → AsksTooMuch d → IsSome next.keeps.said.query → IsOutOfOrder next.keeps.said d
  large_order d = late_order d AsksTooMuch (λ no'. no') (λ a no'. no') (λ r no'. no')

  unsafe_order : (d : DocLine) → IsUnsafe d → IsSome next.keeps.said.query → IsOutOfOrder next.keeps.said d
  unsafe_order d = late_order d IsUnsafe (λ no'. no') (λ a no'. no') (λ r no'. no')

  pub ask_refused_late : (why : Reason) → IsAskFault text why → is_some p.asked ≡ true → FirstOffence (lines ++ text ∷ []) (raised p.lines) reason.Misplaced
  ask_refused_late reason.TooLarge (d, says, large) some = ask_late lines text p next d says (large_order d large (asked_too p.asked next.keeps.said.query next.keeps.asked some))
  ask_refused_late reason.Unsafe (d, says, both) some = ask_late lines text p next d says (unsafe_order d both.0 (asked_too p.asked next.keeps.said.query next.keeps.asked some))
  ask_refused_late reason.TooLong f some = absurd f
  ask_refused_late reason.Misplaced f some = absurd f
  ask_refused_late reason.PassesLimit f some = absurd f
  ask_refused_late reason.UnknownConcept f some = absurd f
  ask_refused_late reason.UnknownRole f some = absurd f
  ask_refused_late reason.TooManyFacts f some = absurd f

  large_now : (d : DocLine) → IsDocLine text d → AsksTooMuch d → is_some p.asked ≡ false → FirstOffence (lines ++ text ∷ []) (raised p.lines) reason.TooLarge
  large_now line.Blank says large none = absurd large
  large_now (line.Axiom a) says large none = absurd large
  large_now (line.Fact r) says large none = absurd large
  large_now (line.Ask q) says large none = query_large lines text p next q says none large

  unsafe_now : (d : DocLine) → IsDocLine text d → IsUnsafe d → (AsksTooMuch d → ⊥) → is_some p.asked ≡ false → FirstOffence (lines ++ text ∷ []) (raised p.lines) reason.Unsafe
  unsafe_now line.Blank says unsafe small none = absurd unsafe
  unsafe_now (line.Axiom a) says unsafe small none = absurd unsafe
  unsafe_now (line.Fact r) says unsafe small none = absurd unsafe
  unsafe_now (line.Ask q) says (v, first) small none = query_unsafe lines text p next q says none small v first

  pub ask_refused : (why : Reason) → IsAskFault text why → is_some p.asked ≡ false → FirstOffence (lines ++ text ∷ []) (raised p.lines) why
  ask_refused reason.TooLarge (d, says, large) none = large_now d says large none
  ask_refused reason.Unsafe (d, says, both) none = unsafe_now d says both.0 both.1 none
  ask_refused reason.TooLong f none = absurd f
  ask_refused reason.Misplaced f none = absurd f
  ask_refused reason.PassesLimit f none = absurd f
  ask_refused reason.UnknownConcept f none = absurd f
  ask_refused reason.UnknownRole f none = absurd f
  ask_refused reason.TooManyFacts f none = absurd f

-- what an error of reading says of a query
pub large_fault : (text : List ℕ) (e : CommandError) → e ≡ commands.TooLarge → IsFaultOf (IsDocLine text) e → IsAskFault text reason.TooLarge
large_fault text e same fault = let f = subst (λ (x : CommandError). IsFaultOf (IsDocLine text) x) same fault in (line.Ask f.0, f.1, f.2)

pub unsafe_fault : (text : List ℕ) (e : CommandError) (v : List ℕ) → e ≡ commands.Unsafe v → IsFaultOf (IsDocLine text) e → IsAskFault text reason.Unsafe
unsafe_fault text e v same fault =
    let f = subst (λ (x : CommandError). IsFaultOf (IsDocLine text) x) same fault in
    (line.Ask f.0, f.1, ((v, f.3), small_not_too_large f.0 f.2))

-- the reason of a row whose name no axiom has
pub unknown_draft : (p : Partial) (why : Reason) (r : NamedRow) → why ≡ unknown_of r → drafts.Refused why (raised p.lines) ≡ drafts.Refused (unknown_of r) (raised p.lines)
unknown_draft p why r same = ap (λ (w : Reason). drafts.Refused w (raised p.lines)) same

-- a row with a place has a name that the axioms have
pub place_named : (o : Terminology) (r : NamedRow) (place : ℕ) → IsPlaceOf o r place → (IsNamedBy o r → ⊥) → ⊥
place_named o (row.Concept c a) place is lacks = lacks (member_at o.concepts place c is)
place_named o (row.Role p a b) place is lacks = lacks (member_at o.roles place p is)

-- what a test says
pub fits_true : (b : Bool) (P Q : Type 0) → b ≡ true → MatchBool b P Q → P
fits_true true P Q is m = m
fits_true false P Q is m = absurd cc

pub fits_false : (b : Bool) (P Q : Type 0) → b ≡ false → MatchBool b P Q → Q
fits_false true P Q is m = absurd cc
fits_false false P Q is m = m
