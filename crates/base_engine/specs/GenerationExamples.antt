-- A role that becomes live, stays live, dies and becomes live again, as laws.
use Rattle.std.specs.Prelude.{◌≡◌, ℕ, ◌+◌, List, [], ◌∷◌, codes}
use Rattle.dl_base.specs.Laws.{direct_at, inverted_at, successors}
use Rattle.dl_base.specs.declared.concept.Role.{Role}
use Rattle.dl_base.specs.declared.row.NamedRow.{NamedRow}
use Rattle.dl_base.specs.declared.row.NamedRow.TheVariants as row
use Rattle.dl_base.specs.declared.row.NamedChange.{NamedChange}
use Rattle.base_store.specs.History.{Over}
use Rattle.base_engine.specs.State.{IsInitial, Raises, MachineState}
use Rattle.base_engine.specs.StepExamples.{adds, deletes}

abbrev pub a_in_a : NamedRow
a_in_a = row.Concept (codes "A") (codes "a")

abbrev pub b_in_a : NamedRow
b_in_a = row.Concept (codes "A") (codes "b")

abbrev pub a_to_b : NamedRow
a_to_b = row.Role (codes "r") (codes "a") (codes "b")

-- Whatever is in A has a successor by r. There is nothing; then a is in A; then b is too; then b isn't, and r leads from a to it;
-- then it doesn't any more.
abbrev pub first_transactions : List (List NamedChange)
first_transactions = (adds a_in_a ∷ []) ∷ []

abbrev pub second_transactions : List (List NamedChange)
second_transactions = (adds a_in_a ∷ []) ∷ (adds b_in_a ∷ []) ∷ []

abbrev pub third_transactions : List (List NamedChange)
third_transactions = (adds a_in_a ∷ []) ∷ (adds b_in_a ∷ []) ∷ (deletes b_in_a ∷ adds a_to_b ∷ []) ∷ []

abbrev pub fourth_transactions : List (List NamedChange)
fourth_transactions = (adds a_in_a ∷ []) ∷ (adds b_in_a ∷ []) ∷ (deletes b_in_a ∷ adds a_to_b ∷ []) ∷ (deletes a_to_b ∷ []) ∷ []

-- r becomes live by the first transaction, stays live by the second, dies by the third and becomes live again by the fourth: its
-- generation rises by the first and the fourth alone
abbrev pub RisesWhereLive : Type 0
RisesWhereLive = (g0 g1 g2 g3 g4 : Role → ℕ) → Raises (Over successors []) (Over successors first_transactions) g0 g1
    → Raises (Over successors first_transactions) (Over successors second_transactions) g1 g2
    → Raises (Over successors second_transactions) (Over successors third_transactions) g2 g3
    → Raises (Over successors third_transactions) (Over successors fourth_transactions) g3 g4
    → (g1 (direct_at 0) ≡ g0 (direct_at 0) + 1) × (g2 (direct_at 0) ≡ g1 (direct_at 0)) × (g3 (direct_at 0) ≡ g2 (direct_at 0)) × (g4 (direct_at 0) ≡ g3 (direct_at 0) + 1)

-- the inverse of r is never live, and its generation stays
abbrev pub StaysWhereDead : Type 0
StaysWhereDead = (g0 g1 : Role → ℕ) → Raises (Over successors []) (Over successors first_transactions) g0 g1 → g1 (inverted_at 0) ≡ g0 (inverted_at 0)

-- where a base is opened, a live role begins with generation 1, however often it has become live, and others with 0
abbrev pub BeginsAfresh : Type 0
BeginsAfresh = (s t : MachineState) → IsInitial (Over successors fourth_transactions) s → IsInitial (Over successors third_transactions) t
    → (s.generation (direct_at 0) ≡ 1) × (s.generation (inverted_at 0) ≡ 0) × (t.generation (direct_at 0) ≡ 0)
