-- Reasons for which a line is refused, and their order.
use Rattle.std.proofs.Common.{◌≡◌, ℕ, zero, suc, ◌+◌, ◌<◌, ◌≤◌, inl, inr, List, length, refl, sym, ◌∙◌, ap, subst, arith}
use Rattle.std.proofs.lemmas.Bool.{cases_order}
use Rattle.script_reader.specs.DocLines.{IsDocLine}
use Rattle.script_reader.specs.declared.doc_line.DocLine.{DocLine}
use Rattle.script_reader.proofs.LineRules.{line_once}
use Rattle.document_run.specs.Document.{Context, IsOutOfOrder, PassesLimit, AsksTooMuch, IsUnsafe, NamesUnknownConcept, NamesUnknownRole, MakesTooMany, SaysWhere, HoldsOf, rank_of, Offends}
use Rattle.document_run.specs.declared.reason.Reason.{Reason}
use Rattle.document_run.specs.declared.reason.Reason.TheVariants as reason

-- ---- the order of reasons

reason_at : ℕ → Reason
reason_at zero = reason.TooLong
reason_at (suc zero) = reason.Misplaced
reason_at (suc (suc zero)) = reason.PassesLimit
reason_at (suc (suc (suc zero))) = reason.TooLarge
reason_at (suc (suc (suc (suc zero)))) = reason.Unsafe
reason_at (suc (suc (suc (suc (suc zero))))) = reason.UnknownConcept
reason_at (suc (suc (suc (suc (suc (suc zero)))))) = reason.UnknownRole
reason_at (suc (suc (suc (suc (suc (suc (suc n))))))) = reason.TooManyFacts

at_rank : (why : Reason) → reason_at (rank_of why) ≡ why
unfolding reason_at
at_rank reason.TooLong = refl
at_rank reason.Misplaced = refl
at_rank reason.PassesLimit = refl
at_rank reason.TooLarge = refl
at_rank reason.Unsafe = refl
at_rank reason.UnknownConcept = refl
at_rank reason.UnknownRole = refl
at_rank reason.TooManyFacts = refl

-- a reason is known by its place in the order
rank_once : (why other : Reason) → rank_of why ≡ rank_of other → why ≡ other
rank_once why other same = sym (at_rank why) ∙ ap reason_at same ∙ at_rank other

pub few_ranks : (why : Reason) → rank_of why < 8
few_ranks reason.TooLong = omega arith
few_ranks reason.Misplaced = omega arith
few_ranks reason.PassesLimit = omega arith
few_ranks reason.TooLarge = omega arith
few_ranks reason.Unsafe = omega arith
few_ranks reason.UnknownConcept = omega arith
few_ranks reason.UnknownRole = omega arith
few_ranks reason.TooManyFacts = omega arith

-- no reason with a rank below this one holds
abbrev pub NoneBelow : (Reason → Type 0) → ℕ → Type 0
NoneBelow H n = (other : Reason) → rank_of other < n → H other → ⊥

module _ (H : Reason → Type 0) where
  pub none_first : NoneBelow H 0
  none_first other below h = omega (arith, below)

  -- nor does the next one
  pub none_next : (why : Reason) → NoneBelow H (rank_of why) → (H why → ⊥) → NoneBelow H (rank_of why + 1)
  none_next why none not other below h = elim (cases_order (rank_of other) (rank_of why)) [
    | inl same ↦ not (subst H (rank_once other why same) h)
    | inr either ↦ elim either [ inl less ↦ none other less h | inr more ↦ omega (arith, below, more) ]
  ]

-- the first reason of a line is one
pub reason_once : (before : Context) (text : List ℕ) (why other : Reason) → Offends before text why → Offends before text other → why ≡ other
reason_once before text why other x y = elim (cases_order (rank_of why) (rank_of other)) [
  | inl same ↦ rank_once why other same
  | inr either ↦ elim either [ inl less ↦ absurd (y.first why less x.holds) | inr more ↦ absurd (x.first other more y.holds) ]
]

-- ---- the reasons of a line that says this

-- the reason holds of what the line says
abbrev pub HoldsFor : Context → DocLine → Reason → Type 0
HoldsFor before d reason.TooLong = ⊥
HoldsFor before d reason.Misplaced = IsOutOfOrder before d
HoldsFor before d reason.PassesLimit = PassesLimit before d
HoldsFor before d reason.TooLarge = AsksTooMuch d
HoldsFor before d reason.Unsafe = IsUnsafe d
HoldsFor before d reason.UnknownConcept = NamesUnknownConcept before d
HoldsFor before d reason.UnknownRole = NamesUnknownRole before d
HoldsFor before d reason.TooManyFacts = MakesTooMany before d

module _ (before : Context) (text : List ℕ) (d : DocLine) (says : IsDocLine text d) (short : length text ≤ 4096) where
  said_here : (P : DocLine → Type 0) → SaysWhere text P → P d
  said_here P (e, says_e, p) = subst P (line_once text e d says_e says) p

  pub holds_for : (why : Reason) → HoldsOf before text why → HoldsFor before d why
  holds_for reason.TooLong h = omega (arith, h, short)
  holds_for reason.Misplaced (inl nothing) = absurd (nothing d says)
  holds_for reason.Misplaced (inr h) = said_here (IsOutOfOrder before) h
  holds_for reason.PassesLimit h = said_here (PassesLimit before) h
  holds_for reason.TooLarge h = said_here AsksTooMuch h
  holds_for reason.Unsafe h = said_here IsUnsafe h
  holds_for reason.UnknownConcept h = said_here (NamesUnknownConcept before) h
  holds_for reason.UnknownRole h = said_here (NamesUnknownRole before) h
  holds_for reason.TooManyFacts h = said_here (MakesTooMany before) h

  holds_of : (why : Reason) → HoldsFor before d why → HoldsOf before text why
  holds_of reason.TooLong h = absurd h
  holds_of reason.Misplaced h = inr (d, says, h)
  holds_of reason.PassesLimit h = (d, says, h)
  holds_of reason.TooLarge h = (d, says, h)
  holds_of reason.Unsafe h = (d, says, h)
  holds_of reason.UnknownConcept h = (d, says, h)
  holds_of reason.UnknownRole h = (d, says, h)
  holds_of reason.TooManyFacts h = (d, says, h)

  -- the first reason that holds of what it says is that of the line
  pub offends_by : (why : Reason) → HoldsFor before d why → NoneBelow (HoldsFor before d) (rank_of why) → Offends before text why
  offends_by why holds none = record { holds = holds_of why holds; first = λ other below h. none other below (holds_for other h) }

-- ---- what is asked in turn

module _ (before : Context) (d : DocLine) where
  pub none_misplaced : NoneBelow (HoldsFor before d) (rank_of reason.Misplaced)
  none_misplaced = none_next (HoldsFor before d) reason.TooLong (none_first (HoldsFor before d)) (λ no. no)

  pub none_limit : (IsOutOfOrder before d → ⊥) → NoneBelow (HoldsFor before d) (rank_of reason.PassesLimit)
  none_limit ordered = none_next (HoldsFor before d) reason.Misplaced none_misplaced ordered

  pub none_large : (IsOutOfOrder before d → ⊥) → (PassesLimit before d → ⊥) → NoneBelow (HoldsFor before d) (rank_of reason.TooLarge)
  none_large ordered fits = none_next (HoldsFor before d) reason.PassesLimit (none_limit ordered) fits

  pub none_unsafe : (IsOutOfOrder before d → ⊥) → (PassesLimit before d → ⊥) → (AsksTooMuch d → ⊥) → NoneBelow (HoldsFor before d) (rank_of reason.Unsafe)
  none_unsafe ordered fits small = none_next (HoldsFor before d) reason.TooLarge (none_large ordered fits) small

  module _ (ordered : IsOutOfOrder before d → ⊥) (fits : PassesLimit before d → ⊥) (small : AsksTooMuch d → ⊥) (safe : IsUnsafe d → ⊥) where
    pub none_concept : NoneBelow (HoldsFor before d) (rank_of reason.UnknownConcept)
    none_concept = none_next (HoldsFor before d) reason.Unsafe (none_unsafe ordered fits small) safe

    pub none_role : (NamesUnknownConcept before d → ⊥) → NoneBelow (HoldsFor before d) (rank_of reason.UnknownRole)
    none_role concepts = none_next (HoldsFor before d) reason.UnknownConcept none_concept concepts

    pub none_facts : (NamesUnknownConcept before d → ⊥) → (NamesUnknownRole before d → ⊥) → NoneBelow (HoldsFor before d) (rank_of reason.TooManyFacts)
    none_facts concepts roles = none_next (HoldsFor before d) reason.UnknownRole (none_role concepts) roles

    -- no reason holds
    pub none_holds : (NamesUnknownConcept before d → ⊥) → (NamesUnknownRole before d → ⊥) → (MakesTooMany before d → ⊥) → (why : Reason) → HoldsFor before d why → ⊥
    none_holds concepts roles few why = none_next (HoldsFor before d) reason.TooManyFacts (none_facts concepts roles) few why (few_ranks why)

-- ---- lines that say nothing

-- a line that is too long
pub offends_long : (before : Context) (text : List ℕ) → 4096 < length text → Offends before text reason.TooLong
offends_long before text long = record { holds = long; first = λ other below h. omega (arith, below) }

-- a line that says nothing
pub offends_syntax : (before : Context) (text : List ℕ) → length text ≤ 4096 → ((d : DocLine) → IsDocLine text d → ⊥) → Offends before text reason.Misplaced
offends_syntax before text short none = record { holds = inl none; first = first }
  where
    first : (other : Reason) → rank_of other < 1 → HoldsOf before text other → ⊥
    first reason.TooLong below h = omega (arith, h, short)
    first reason.Misplaced below h = omega (arith, below)
    first reason.PassesLimit below h = omega (arith, below)
    first reason.TooLarge below h = omega (arith, below)
    first reason.Unsafe below h = omega (arith, below)
    first reason.UnknownConcept below h = omega (arith, below)
    first reason.UnknownRole below h = omega (arith, below)
    first reason.TooManyFacts below h = omega (arith, below)
