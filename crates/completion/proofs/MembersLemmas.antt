-- Elements in order: what searches of the two lists find.
use Rattle.std.proofs.Common.{suc, ◌≡◌, ◌≢◌, ℕ, ◌+◌, ◌⊎◌, ◌↔◌, inl, inr, Bool, true, false, not, List, [], ◌∷◌, length, map, Contains, Option, Some, None, refl, sym, ◌∙◌, ap, subst, arith}
use Rattle.std.specs.declared.cmp.Ordering.{Ordering}
use Rattle.std.specs.declared.cmp.Ordering.TheVariants.{Less, Equal, Greater}
use Rattle.std.specs.Ordering.{nat_cmp, is_lt}
use Rattle.std.proofs.lemmas.Bool.Decides.{nat_tests}
use Rattle.std.proofs.lemmas.List.Elements.{Contains-append_left, Contains-append_right, Contains-append_cases}
use Rattle.dl_base.specs.Tables.{IsAbove, IsLeastAbove, elem_cmp, witness_cmp}
use Rattle.dl_base.specs.declared.element.Elem.{Elem}
use Rattle.dl_base.specs.declared.element.Elem.TheVariants as elem
use Rattle.dl_base.specs.declared.element.Witness.{Witness}
use Rattle.dl_base.proofs.PlaceLemmas.{map_contains, map_from}
use Rattle.std.specs.List.{AllByRecursion}
use Rattle.std.specs.List.Sorted.{IsStrictlySortedBy}
use Rattle.dl_base.specs.Tables.{AreCounted}
use Rattle.dl_base.proofs.ElemLemmas.{elem_total, elem_same}
use Rattle.dl_base.proofs.InOrder.{rising_distinct}
use Rattle.completion.proofs.OrderLemmas.{witness_total}
use Rattle.completion.specs.Members.{AreMembers, IsFirstPast, is_number_passed, is_witness_passed, members_of}

flips : (b : Bool) → not b ≡ false → b ≡ true
flips true h = refl
flips false h = absurd cc

less_of : (r : Ordering) → is_lt r ≡ true → r ≡ Less
less_of Less e = refl
less_of Equal e = absurd cc
less_of Greater e = absurd cc

-- an item that isn't passed is above, and what is above isn't passed
number_above : (after : Option Elem) (n : ℕ) → is_number_passed after n ≡ false → IsAbove after (elem.Named n)
number_above None n h = tt
number_above (Some (elem.Named a)) n h = grind (arith, nat_tests)
number_above (Some (elem.Shared w)) n h = absurd cc

number_kept : (after : Option Elem) (n : ℕ) → IsAbove after (elem.Named n) → is_number_passed after n ≡ false
number_kept None n h = refl
number_kept (Some (elem.Named a)) n h = grind (arith, nat_tests)
number_kept (Some (elem.Shared w)) n h = absurd cc

witness_above : (after : Option Elem) (w : Witness) → is_witness_passed after w ≡ false → IsAbove after (elem.Shared w)
witness_above None w h = tt
witness_above (Some (elem.Named a)) w h = refl
witness_above (Some (elem.Shared v)) w h = less_of (witness_cmp v w) (flips (is_lt (witness_cmp v w)) h)

witness_kept : (after : Option Elem) (w : Witness) → IsAbove after (elem.Shared w) → is_witness_passed after w ≡ false
witness_kept None w h = refl
witness_kept (Some (elem.Named a)) w h = refl
witness_kept (Some (elem.Shared v)) w h = ap (λ (r : Ordering). not (is_lt r)) h

module _ (individuals : List ℕ) (witnesses : List Witness) where
  number_there : (n : ℕ) → Contains individuals n → Contains (members_of individuals witnesses) (elem.Named n)
  number_there n c = Contains-append_left (map elem.Named individuals) (map elem.Shared witnesses) (elem.Named n) (map_contains elem.Named individuals n c)

  witness_there : (w : Witness) → Contains witnesses w → Contains (members_of individuals witnesses) (elem.Shared w)
  witness_there w c = Contains-append_right (map elem.Named individuals) (map elem.Shared witnesses) (elem.Shared w) (map_contains elem.Shared witnesses w c)

  kind : (e : Elem) → Contains (members_of individuals witnesses) e → ((n : ℕ) × Contains individuals n × (e ≡ elem.Named n)) ⊎ ((w : Witness) × Contains witnesses w × (e ≡ elem.Shared w))
  kind e c = elim (Contains-append_cases (map elem.Named individuals) (map elem.Shared witnesses) e c) [
    | inl d ↦ inl (map_from elem.Named individuals e d)
    | inr d ↦ inr (map_from elem.Shared witnesses e d)
  ]

  pub number_in : (n : ℕ) → Contains (members_of individuals witnesses) (elem.Named n) ↔ Contains individuals n
  number_in n = (
    λ c. elim (kind (elem.Named n) c) [
      | inl found ↦ (let same : n ≡ found.0 = (let e = found.2 in cc) in subst (Contains individuals) (sym same) found.1)
      | inr found ↦ absurd (let e = found.2 in cc)
    ],
    number_there n,
  )

  pub witness_in : (w : Witness) → Contains (members_of individuals witnesses) (elem.Shared w) ↔ Contains witnesses w
  witness_in w = (
    λ c. elim (kind (elem.Shared w) c) [
      | inl found ↦ absurd (let e = found.2 in cc)
      | inr found ↦ (let same : w ≡ found.0 = (let e = found.2 in cc) in subst (Contains witnesses) (sym same) found.1)
    ],
    witness_there w,
  )

  module _ (after : Option Elem) where
    not_before : (n : ℕ) (f : Elem) → ((m : ℕ) → Contains individuals m → is_number_passed after m ≡ false → nat_cmp n m ≢ Greater) → Contains (members_of individuals witnesses) f → IsAbove after f → elem_cmp (elem.Named n) f ≢ Greater
    not_before n f least c above = elim (kind f c) [
      | inl found ↦ subst (λ (g : Elem). elem_cmp (elem.Named n) g ≢ Greater) (sym found.2) (least found.0 found.1 (number_kept after found.0 (subst (IsAbove after) found.2 above)))
      | inr found ↦ subst (λ (g : Elem). elem_cmp (elem.Named n) g ≢ Greater) (sym found.2) (λ e. absurd cc)
    ]

    pub least_number : (n : ℕ) → IsFirstPast nat_cmp (is_number_passed after) individuals (Some n) → IsLeastAbove (Contains (members_of individuals witnesses)) after (Some (elem.Named n))
    least_number n first = (number_there n first.0, number_above after n first.1, λ f c above. not_before n f first.2 c above)

    -- no individual is above
    no_number : IsFirstPast nat_cmp (is_number_passed after) individuals None → (f : Elem) → Contains (members_of individuals witnesses) f → IsAbove after f
        → (w : Witness) × Contains witnesses w × (f ≡ elem.Shared w) × (is_witness_passed after w ≡ false)
    no_number all f c above = elim (kind f c) [
      | inl found ↦ absurd (let on : is_number_passed after found.0 ≡ true = all found.0 found.1 in let off : is_number_passed after found.0 ≡ false = number_kept after found.0 (subst (IsAbove after) found.2 above) in cc)
      | inr found ↦ (found.0, found.1, found.2, witness_kept after found.0 (subst (IsAbove after) found.2 above))
    ]

    pub least_witness : (w : Witness) → IsFirstPast nat_cmp (is_number_passed after) individuals None → IsFirstPast witness_cmp (is_witness_passed after) witnesses (Some w)
        → IsLeastAbove (Contains (members_of individuals witnesses)) after (Some (elem.Shared w))
    least_witness w none first = (
      witness_there w first.0,
      witness_above after w first.1,
      λ f c above. let found = no_number none f c above in subst (λ (g : Elem). elem_cmp (elem.Shared w) g ≢ Greater) (sym found.2) (first.2 found.0 found.1 found.3),
    )

    pub least_none : IsFirstPast nat_cmp (is_number_passed after) individuals None → IsFirstPast witness_cmp (is_witness_passed after) witnesses None → IsLeastAbove (Contains (members_of individuals witnesses)) after None
    least_none none all = λ f c above. let found = no_number none f c above in let on : is_witness_passed after found.0 ≡ true = all found.0 found.1 in let off = found.3 in absurd cc

-- ---- searches go down

pub number_down : (after : Option Elem) (n m : ℕ) → nat_cmp n m ≡ Less → is_number_passed after m ≡ true → is_number_passed after n ≡ true
number_down None n m less h = h
number_down (Some (elem.Named a)) n m less h = grind (arith, nat_tests)
number_down (Some (elem.Shared w)) n m less h = h

pub witness_down : (after : Option Elem) (w v : Witness) → witness_cmp w v ≡ Less → is_witness_passed after v ≡ true → is_witness_passed after w ≡ true
witness_down None w v less h = h
witness_down (Some (elem.Named a)) w v less h = h
witness_down (Some (elem.Shared u)) w v less h = by (witness_cmp u w) refl
  where
    by : (r : Ordering) → witness_cmp u w ≡ r → not (is_lt (witness_cmp u w)) ≡ true
    by Less e = absurd (let f : witness_cmp u v ≡ Less = witness_total.trans u w v e less in let g : not (is_lt (witness_cmp u v)) ≡ false = ap (λ (r : Ordering). not (is_lt r)) f in cc)
    by Equal e = ap (λ (r : Ordering). not (is_lt r)) e
    by Greater e = ap (λ (r : Ordering). not (is_lt r)) e

-- ---- how many

all_shared : (w : Witness) (ws : List Witness) → AllByRecursion (λ v. witness_cmp w v ≡ Less) ws → AllByRecursion (λ e. elem_cmp (elem.Shared w) e ≡ Less) (map elem.Shared ws)
all_shared w [] all = tt
all_shared w (v ∷ vs) all = (all.0, all_shared w vs all.1)

shared_above : (n : ℕ) (ws : List Witness) → AllByRecursion (λ e. elem_cmp (elem.Named n) e ≡ Less) (map elem.Shared ws)
shared_above n [] = tt
shared_above n (v ∷ vs) = (refl, shared_above n vs)

all_named : (n : ℕ) (ns : List ℕ) (ws : List Witness) → AllByRecursion (λ m. nat_cmp n m ≡ Less) ns → AllByRecursion (λ e. elem_cmp (elem.Named n) e ≡ Less) (members_of ns ws)
all_named n [] ws all = shared_above n ws
all_named n (m ∷ ms) ws all = (all.0, all_named n ms ws all.1)

witnesses_rise : (ws : List Witness) → IsStrictlySortedBy witness_cmp ws → IsStrictlySortedBy elem_cmp (map elem.Shared ws)
unfolding IsStrictlySortedBy
witnesses_rise [] rises = tt
witnesses_rise (w ∷ ws) rises = (all_shared w ws rises.0, witnesses_rise ws rises.1)

members_rise : (ns : List ℕ) (ws : List Witness) → IsStrictlySortedBy nat_cmp ns → IsStrictlySortedBy witness_cmp ws → IsStrictlySortedBy elem_cmp (members_of ns ws)
unfolding IsStrictlySortedBy
members_rise [] ws numbers witnesses = witnesses_rise ws witnesses
members_rise (n ∷ ns) ws numbers witnesses = (all_named n ns ws numbers.0, members_rise ns ws numbers.1 witnesses)

shared_many : (ws : List Witness) → length (map elem.Shared ws) ≡ length ws
shared_many [] = refl
shared_many (w ∷ ws) = ap suc (shared_many ws)

members_many : (ns : List ℕ) (ws : List Witness) → length (members_of ns ws) ≡ length ns + length ws
members_many [] ws = let rest = shared_many ws in omega (arith, rest)
members_many (n ∷ ns) ws = let rest = members_many ns ws in omega (arith, rest)

pub members_counted : (ns : List ℕ) (ws : List Witness) (count : ℕ) → AreMembers ns ws → count ≡ length ns + length ws → AreCounted (Contains (members_of ns ws)) count
members_counted ns ws count are is = record {
  members = members_of ns ws;
  distinct = rising_distinct elem_cmp elem_total elem_same (members_of ns ws) (members_rise ns ws are.numbers_rise are.witnesses_rise);
  each = λ e. (λ c. c, λ c. c);
  number = is ∙ sym (members_many ns ws);
}
