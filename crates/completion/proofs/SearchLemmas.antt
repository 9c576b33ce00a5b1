-- What searches of sorted lists find.
use Rattle.std.proofs.Common.{◌≡◌, ◌≢◌, ℕ, ◌+◌, ◌-◌, ◌<◌, ◌≤◌, ◌⊎◌, ◌↔◌, inl, inr, Bool, true, false, not, ◌&&◌, ◌||◌, List, length, get_or, Contains, Option, Some, None, Result, Ok, Err, is_ok, refl, sym, ◌∙◌, ap, subst, arith}
use Rattle.std.specs.Cmp.{IsTotalOrder}
use Rattle.std.specs.declared.cmp.Ordering.{Ordering}
use Rattle.std.specs.declared.cmp.Ordering.TheVariants.{Less, Equal, Greater}
use Rattle.std.specs.Ordering.{ordering_reverse, is_lt}
use Rattle.std.specs.List.{slice_get, HoldsAt}
use Rattle.std.specs.Option.{MatchOption, option_copied}
use denote.Ref.{Bor}
use Rattle.std.specs.List.Sorted.{IsStrictlySortedBy, IsSorted, IsPartitionedBy, IsPartitionPoint, IsBinarySearchResult, IsSearchInRange}
use Rattle.std.specs.Prelude.{nat_lt, nat_eq}
use Rattle.std.proofs.lemmas.Bool.{cases_eq}
use Rattle.std.proofs.lemmas.Bool.Decides.{nat_tests}
use Rattle.std.proofs.lemmas.Cmp.{tied_itself}
use Rattle.std.proofs.lemmas.List.Sorted.{searchable_from_sorted}
use Rattle.std.proofs.lemmas.Map.Keys.{Less-from_sorted}
use Rattle.std.proofs.lemmas.List.{get_or_default}
use Rattle.std.proofs.lemmas.Option.{slice_get_cases, slice_get_past, slice_get-get_or}
use Rattle.dl_base.specs.declared.element.Elem.{Elem}
use Rattle.dl_base.specs.declared.element.Elem.TheVariants as elem
use Rattle.completion.specs.EdgeLists.{edge_cmp, is_above, target_passed}
use Rattle.completion.specs.Members.{IsFirstPast}
use Rattle.completion.specs.Search.{IsAtPoint, PartsAt}
use Rattle.completion.specs.declared.edges.Edge.{Edge}
use Rattle.completion.proofs.OrderLemmas.{edge_less}

module _ {X : Type 0} (cmp : X → X → Ordering) (total : IsTotalOrder cmp) (xs : List X) (rises : IsStrictlySortedBy cmp xs) where
  not_above : (x y : X) → cmp x y ≡ Less → is_lt (cmp y x) ≡ false
  not_above x y e = ap is_lt (total.antisymm y x ∙ ap ordering_reverse e)

  -- what binary_search asks
  sorted : IsSorted cmp xs
  sorted k d low below = not_above _ _ (Less-from_sorted cmp xs k (k + 1) d rises (omega arith) below)

  -- a test that holds of whatever is before what it holds of
  pub parted : (passed : X → Bool) → ((x y : X) → cmp x y ≡ Less → passed y ≡ true → passed x ≡ true) → IsPartitionedBy passed xs
  parted passed down i j d upto below h = elim (cases_eq i j) [
    | inl e ↦ subst (λ (k : ℕ). passed (get_or xs k d) ≡ true) (sym e) h
    | inr other ↦ down _ _ (Less-from_sorted cmp xs i j d rises (omega arith) below) h
  ]

  before_point : (passed : X → Bool) (i : ℕ) → IsPartitionPoint (λ y. passed y ≡ true) (λ y. passed y ≡ false) xs i
      → (y : X) (k : ℕ) → k < length xs → get_or xs k y ≡ y → passed y ≡ false → i ≤ k
  before_point passed i point y k below at off = elim (least k) [
    | inl low ↦ absurd (let on : passed y ≡ true = subst (λ (z : X). passed z ≡ true) at (point.0 k y (omega arith) low) in cc)
    | inr high ↦ high
  ]
    where
      least : (k : ℕ) → (k < i) ⊎ (i ≤ k)
      least k = grind arith

  first_past : (passed : X → Bool) (i : ℕ) (r : Option X) → r ≡ slice_get xs i → IsPartitionPoint (λ y. passed y ≡ true) (λ y. passed y ≡ false) xs i
      → IsFirstPast cmp passed xs r
  first_past passed i r is point = elim (slice_get_cases xs i).1 [
    | inl found ↦ subst (IsFirstPast cmp passed xs) (sym (is ∙ found.2)) (
      (i, found.1, found.3),
      subst (λ (z : X). passed z ≡ false) found.3 (point.1 i found.0 (omega arith) found.1),
      λ y c off. later found.0 found.1 found.3 y c (before_point passed i point y c.0 c.1 c.2 off),
    )
    | inr past ↦ subst (IsFirstPast cmp passed xs) (sym (is ∙ past.1)) (λ y c. subst (λ (z : X). passed z ≡ true) c.2 (point.0 c.0 y (omega arith) (omega (arith, c.1))))
  ]
    where
      later : (x : X) → i < length xs → get_or xs i x ≡ x → (y : X) (c : Contains xs y) → i ≤ c.0 → cmp x y ≢ Greater
      later x below at y c upto = λ above. elim (cases_eq i c.0) [
        | inl e ↦
            let same : x ≡ y = sym at ∙ (get_or_default xs i x y below ∙ (ap (λ (k : ℕ). get_or xs k y) e ∙ c.2)) in
            let self : cmp x x ≡ Equal = tied_itself total x in
            let tied : cmp x y ≡ Equal = subst (λ (z : X). cmp x z ≡ Equal) same self in
            cc
        | inr other ↦
            let less : cmp (get_or xs i x) (get_or xs c.0 x) ≡ Less = Less-from_sorted cmp xs i c.0 x rises (omega arith) c.1 in
            let there : get_or xs c.0 x ≡ y = get_or_default xs c.0 x y c.1 ∙ c.2 in
            cc
      ]

  pub first_at : (passed : X → Bool) (r : Option X) → IsAtPoint passed xs r → IsFirstPast cmp passed xs r
  first_at passed r there = first_past passed there.0 r there.2 there.1

  -- what binary_search answers
  pub found : ((x y : X) → cmp x y ≡ Equal → x ≡ y) → (x : X) (r : Result ℕ ℕ) → IsSearchInRange r (length xs) → IsBinarySearchResult (λ y. cmp y x) xs r → (is_ok r ≡ true) ↔ Contains xs x
  found same x (Ok i) bound at = (λ yes. (i, bound, same _ _ (at x)), λ c. refl)
  found same x (Err i) bound point = (λ yes. absurd cc, λ c. absurd (nowhere c))
    where
      nowhere : Contains xs x → ⊥
      nowhere c =
          let sides : IsPartitionPoint (λ y. cmp y x ≡ Less) (λ y. cmp y x ≡ Greater) xs i = point (searchable_from_sorted total (λ y. y) xs x sorted) in
          let self : cmp x x ≡ Equal = tied_itself total x in
          elim (side c.0) [
            | inl low ↦ (let less : cmp x x ≡ Less = subst (λ (z : X). cmp z x ≡ Less) c.2 (sides.0 c.0 x (omega arith) low) in cc)
            | inr high ↦ (let more : cmp x x ≡ Greater = subst (λ (z : X). cmp z x ≡ Greater) c.2 (sides.1 c.0 x high c.1) in cc)
          ]
        where
          side : (k : ℕ) → (k < i) ⊎ (i ≤ k)
          side k = grind arith

-- where the item in front of a place passes and the one at it doesn't, the place is where the test parts the list
module _ {X : Type 0} (passed : X → Bool) (xs : List X) (parts : IsPartitionedBy passed xs) (i : ℕ) where
  pub point_here : i ≤ length xs → (i ≡ 0) ⊎ ((x : X) × (get_or xs (i - 1) x ≡ x) × (passed x ≡ true)) → (i ≡ length xs) ⊎ ((x : X) × (get_or xs i x ≡ x) × (passed x ≡ false))
      → PartsAt passed xs i
  point_here within before behind = (λ k d from below. in_front k d below before, λ k d from below. at_or_behind k d from below behind)
    where
      in_front : (k : ℕ) (d : X) → k < i → (i ≡ 0) ⊎ ((x : X) × (get_or xs (i - 1) x ≡ x) × (passed x ≡ true)) → passed (get_or xs k d) ≡ true
      in_front k d below (inl none) = absurd (omega (arith, none))
      in_front k d below (inr there) =
          let is : get_or xs (i - 1) d ≡ there.0 = get_or_default xs (i - 1) d there.0 (omega arith) ∙ there.1 in
          parts k (i - 1) d (omega arith) (omega arith) (subst (λ (z : X). passed z ≡ true) (sym is) there.2)

      at_or_behind : (k : ℕ) (d : X) → i ≤ k → k < length xs → (i ≡ length xs) ⊎ ((x : X) × (get_or xs i x ≡ x) × (passed x ≡ false)) → passed (get_or xs k d) ≡ false
      at_or_behind k d from below (inl end) = absurd (omega (arith, end))
      at_or_behind k d from below (inr there) = by (passed (get_or xs k d)) refl
        where
          by : (b : Bool) → passed (get_or xs k d) ≡ b → passed (get_or xs k d) ≡ false
          by false off = off
          by true on =
              let is : get_or xs i d ≡ there.0 = get_or_default xs i d there.0 (omega arith) ∙ there.1 in
              let here : passed there.0 ≡ true = subst (λ (z : X). passed z ≡ true) is (parts i k d from below on) in
              absurd (let no = there.2 in cc)

-- what get answers
pub item_read : {X : Type 0} (xs : List X) (i : ℕ) (r : Option (Bor X)) → MatchOption r (length xs ≤ i) (λ b. (i < length xs) × HoldsAt (λ y. b.now ≡ y) xs i) → option_copied r ≡ slice_get xs i
item_read xs i None h = sym (slice_get_past xs i h)
item_read xs i (Some b) h = ap Some (h.1 b.now) ∙ sym (slice_get-get_or xs i b.now h.0)

-- a test of a number, and where it is that number of something else
pub passed_cases : (n c : ℕ) (b : Bool) → (nat_lt n c || (nat_eq n c && b)) ≡ true → (n < c) ⊎ ((n ≡ c) × (b ≡ true))
passed_cases n c b h = grind (arith, nat_tests)

pub passed_below : (n c : ℕ) (b : Bool) → n < c → (nat_lt n c || (nat_eq n c && b)) ≡ true
passed_below n c b h = grind (arith, nat_tests)

pub passed_at : (n c : ℕ) (b : Bool) → n ≡ c → (nat_lt n c || (nat_eq n c && b)) ≡ b
passed_at n c b h = grind (arith, nat_tests)

above_down : (after : Option Elem) (n m : ℕ) → n < m → not (is_above after m) ≡ true → not (is_above after n) ≡ true
above_down None n m less h = h
above_down (Some (elem.Named a)) n m less h = grind (arith, nat_tests)
above_down (Some (elem.Shared w)) n m less h = h

module _ (c : ℕ) (after : Option Elem) where
  pub target_down : (a : ℕ) (x y : Edge) → edge_cmp x y ≡ Less → target_passed c a after y ≡ true → target_passed c a after x ≡ true
  target_down a x y less h = elim (passed_cases y.role c _ h) [
    | inl low ↦ passed_below x.role c _ (elim (edge_less x y less) [ inl l ↦ omega arith | inr l ↦ omega (arith, l.0) ])
    | inr here ↦ elim (edge_less x y less) [
      | inl l ↦ passed_below x.role c _ (omega (arith, here.0))
      | inr l ↦ passed_at x.role c _ (l.0 ∙ here.0) ∙ within l.1 (passed_cases y.from a _ here.1)
    ]
  ]
    where
      within : ((x.from < y.from) ⊎ ((x.from ≡ y.from) × (x.to < y.to))) → ((y.from < a) ⊎ ((y.from ≡ a) × (not (is_above after y.to) ≡ true))) → (nat_lt x.from a || (nat_eq x.from a && not (is_above after x.to))) ≡ true
      within (inl l) (inl low) = passed_below x.from a _ (omega arith)
      within (inl l) (inr at) = passed_below x.from a _ (omega (arith, at.0))
      within (inr l) (inl low) = passed_below x.from a _ (omega (arith, l.0))
      within (inr l) (inr at) = passed_at x.from a _ (l.0 ∙ at.0) ∙ above_down after _ _ l.1 at.1
