-- How many individuals are left above one.
use Rattle.std.proofs.Common.{◌≡◌, ℕ, ◌+◌, ◌<◌, ◌≤◌, inl, inr, Bool, true, List, [], ◌∷◌, Contains, Option, Some, None, arith}
use Rattle.std.specs.Prelude.{if◌then◌else◌, nat_lt}
use Rattle.std.proofs.lemmas.Bool.Decides.{nat_tests}
use Rattle.assert_tables.specs.Rows.{IsNextIndividual, IsNumberAbove, individuals_of}
use Rattle.assert_tables.proofs.CountLemmas.{named_individual}
use Rattle.dl_base.specs.declared.row.Row.{Row}
use Rattle.dl_base.proofs.RisingLemmas.{contains_cases}

pub above_on : (after : Option ℕ) (i n : ℕ) → IsNumberAbove after i → i < n → IsNumberAbove after n
above_on None i n above less = tt
above_on (Some a) i n above less = omega arith

abbrev pub is_number_above : Option ℕ → ℕ → Bool
is_number_above None n = true
is_number_above (Some a) n = nat_lt a n

-- how many of the numbers are above that one
abbrev pub numbers_left : Option ℕ → List ℕ → ℕ
numbers_left after [] = 0
numbers_left after (n ∷ ns) = (if is_number_above after n then 1 else 0) + numbers_left after ns

one_upto : (after : Option ℕ) (i n : ℕ) → IsNumberAbove after i → (if is_number_above (Some i) n then 1 else 0) ≤ (if is_number_above after n then 1 else 0)
one_upto None i n above = grind (arith, nat_tests)
one_upto (Some a) i n above = grind (arith, nat_tests)

one_less : (after : Option ℕ) (i n : ℕ) → IsNumberAbove after i → i ≡ n → (if is_number_above (Some i) n then 1 else 0) < (if is_number_above after n then 1 else 0)
one_less None i n above same = grind (arith, nat_tests)
one_less (Some a) i n above same = grind (arith, nat_tests)

module _ (after : Option ℕ) (i : ℕ) (above : IsNumberAbove after i) where
  numbers_upto : (ns : List ℕ) → numbers_left (Some i) ns ≤ numbers_left after ns
  numbers_upto [] = omega arith
  numbers_upto (n ∷ ns) = let rest = numbers_upto ns in let one = one_upto after i n above in omega (arith, rest, one)

  fewer_numbers : (ns : List ℕ) → Contains ns i → numbers_left (Some i) ns < numbers_left after ns
  fewer_numbers [] c = absurd (omega (arith, c.1))
  fewer_numbers (n ∷ ns) c = elim (contains_cases n ns i c) [
    | inl same ↦ (let rest = numbers_upto ns in let one = one_less after i n above same in omega (arith, rest, one))
    | inr later ↦ (let rest = fewer_numbers ns later in let one = one_upto after i n above in omega (arith, rest, one))
  ]

pub fewer_individuals : (rows : List Row) (after : Option ℕ) (i : ℕ) → IsNextIndividual rows after (Some i) → numbers_left (Some i) (individuals_of rows) < numbers_left after (individuals_of rows)
fewer_individuals rows after i next = fewer_numbers after i next.0 (individuals_of rows) (named_individual rows next.1.0 i next.1.1 next.1.2)
