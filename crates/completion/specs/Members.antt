-- Elements in order: individuals by their numbers, then witnesses.
use Rattle.std.specs.Prelude.{◌≡◌, ◌≢◌, ℕ, Bool, true, false, not, List, ◌++◌, map, Contains, Option, Some, None, nat_lt}
use Rattle.std.specs.declared.cmp.Ordering.{Ordering}
use Rattle.std.specs.declared.cmp.Ordering.TheVariants.{Less, Greater}
use Rattle.std.specs.Ordering.{nat_cmp, is_lt}
use Rattle.std.specs.List.Sorted.{IsStrictlySortedBy}
use Rattle.dl_base.specs.Tables.{elem_cmp, witness_cmp}
use Rattle.dl_base.specs.declared.element.Elem.{Elem}
use Rattle.dl_base.specs.declared.element.Elem.TheVariants as elem
use Rattle.dl_base.specs.declared.element.Witness.{Witness}

-- the individuals, then the witnesses
abbrev pub members_of : List ℕ → List Witness → List Elem
members_of individuals witnesses = map elem.Named individuals ++ map elem.Shared witnesses

-- both lists rise
pub record AreMembers (individuals : List ℕ) (witnesses : List Witness) : Type 0 where
  pub numbers_rise : IsStrictlySortedBy nat_cmp individuals
  pub witnesses_rise : IsStrictlySortedBy witness_cmp witnesses

-- the element is above each of these
abbrev pub IsAboveAll : List Elem → Elem → Type 0
IsAboveAll list e = (x : Elem) → Contains list x → elem_cmp x e ≡ Less

-- the first item that isn't passed, or none exactly where all are
abbrev pub IsFirstPast : {X : Type 0} → (X → X → Ordering) → (X → Bool) → List X → Option X → Type 0
IsFirstPast {X} cmp passed xs None = (y : X) → Contains xs y → passed y ≡ true
IsFirstPast {X} cmp passed xs (Some x) = Contains xs x × (passed x ≡ false) × ((y : X) → Contains xs y → passed y ≡ false → cmp x y ≢ Greater)

-- whether the individual isn't above the element
abbrev pub is_number_passed : Option Elem → ℕ → Bool
is_number_passed None n = false
is_number_passed (Some (elem.Named a)) n = not (nat_lt a n)
is_number_passed (Some (elem.Shared w)) n = true

-- whether the witness isn't above the element
abbrev pub is_witness_passed : Option Elem → Witness → Bool
is_witness_passed None w = false
is_witness_passed (Some (elem.Named a)) w = false
is_witness_passed (Some (elem.Shared v)) w = not (is_lt (witness_cmp v w))
