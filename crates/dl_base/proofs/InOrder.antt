-- Lists in order: their members, and what ordered sets insert.
use Rattle.std.proofs.Common.{◌≡◌, ◌≢◌, suc, ◌+◌, ◌≤◌, inl, inr, List, [], ◌∷◌, length, get_or, AllPairs, Contains, refl, sym, ◌∙◌, ap, subst, arith}
use Rattle.std.specs.Cmp.{IsTotalOrder}
use Rattle.std.specs.BTreeSet.{insert_key}
use Rattle.std.specs.List.Sorted.{IsStrictlySortedBy}
use Rattle.std.specs.declared.cmp.Ordering.{Ordering}
use Rattle.std.specs.declared.cmp.Ordering.TheVariants.{Less, Equal, Greater}
use Rattle.std.specs.Ordering.{match_ordering}
use Rattle.std.proofs.lemmas.Cmp.{tied_itself}
use Rattle.std.proofs.lemmas.List.Kept.{AllPairs-cons}
use Rattle.std.proofs.lemmas.Option.{slice_get-get_or}
use Rattle.dl_base.proofs.PlaceLemmas.{member_at}
use Rattle.dl_base.proofs.RisingLemmas.{Adds, placed, placed_adds, placed_rises, length-placed, same_rising, contains_cases, contains_first, contains_later, all_contains}
use Rattle.dl_base.proofs.RowLemmas.{none_rising}

module _ {X : Type 0} (cmp : X → X → Ordering) (total : IsTotalOrder cmp) (same : (x y : X) → cmp x y ≡ Equal → x ≡ y) where
  above_other : (x y : X) → cmp x y ≡ Less → x ≢ y
  above_other x y less e =
      let self : cmp x x ≡ Equal = tied_itself total x in
      let again : cmp x x ≡ Less = subst (λ (z : X). cmp x z ≡ Less) (sym e) less in
      absurd (let f : Less ≡ Equal = sym again ∙ self in cc)

  -- its members are distinct
  pub rising_distinct : (xs : List X) → IsStrictlySortedBy cmp xs → AllPairs (λ x y. x ≢ y) xs
  unfolding IsStrictlySortedBy
  rising_distinct [] rises = λ i j d lt below. absurd (omega arith)
  rising_distinct (x ∷ xs) rises =
      AllPairs-cons (λ x y. x ≢ y) x xs
      (λ k d below. above_other x (get_or xs k d) (all_contains (λ z. cmp x z ≡ Less) xs (get_or xs k d) rises.0 (member_at xs k (get_or xs k d) (slice_get-get_or xs k d below))))
      (rising_distinct xs rises.1)

  -- the members of a list in order
  pub in_order : List X → List X
  in_order [] = []
  in_order (x ∷ xs) = placed cmp total same x (in_order xs)

  pub in_order_rises : (xs : List X) → IsStrictlySortedBy cmp (in_order xs)
  unfolding in_order
  in_order_rises [] = none_rising cmp
  in_order_rises (x ∷ xs) = placed_rises cmp total same x (in_order xs) (in_order_rises xs)

  pub from_order : (xs : List X) (z : X) → Contains (in_order xs) z → Contains xs z
  unfolding in_order
  from_order [] z c = c
  from_order (x ∷ xs) z c = elim ((placed_adds cmp total same x (in_order xs)).each z c) [
    | inl e ↦ subst (Contains (x ∷ xs)) (sym e) (contains_first x xs)
    | inr d ↦ contains_later x xs z (from_order xs z d)
  ]

  pub into_order : (xs : List X) (z : X) → Contains xs z → Contains (in_order xs) z
  unfolding in_order
  into_order [] z c = c
  into_order (x ∷ xs) z c = elim (contains_cases x xs z c) [
    | inl e ↦ subst (Contains (in_order (x ∷ xs))) (sym e) (placed_adds cmp total same x (in_order xs)).there
    | inr d ↦ (placed_adds cmp total same x (in_order xs)).stays z (into_order xs z d)
  ]

  -- a set inserts a key at its place
  insert_is : (x : X) (xs : List X) → insert_key cmp xs x ≡ placed cmp total same x xs
  insert_is x [] = refl
  insert_is x (y ∷ ys) = ap (λ (zs : List X). match_ordering (cmp x y) (x ∷ y ∷ ys) (y ∷ ys) (y ∷ zs)) (insert_is x ys)

  pub insert_adds : (x : X) (xs : List X) → Adds x xs (insert_key cmp xs x)
  insert_adds x xs = subst (Adds x xs) (sym (insert_is x xs)) (placed_adds cmp total same x xs)

  pub insert_rises : (x : X) (xs : List X) → IsStrictlySortedBy cmp xs → IsStrictlySortedBy cmp (insert_key cmp xs x)
  insert_rises x xs rises = subst (IsStrictlySortedBy cmp) (sym (insert_is x xs)) (placed_rises cmp total same x xs rises)

  -- one more key makes the list longer by one at most
  pub insert_most : (x : X) (xs : List X) → length (insert_key cmp xs x) ≤ 1 + length xs
  insert_most x [] = omega arith
  insert_most x (y ∷ ys) = by (cmp x y) (insert_most x ys)
    where
      by : (r : Ordering) → length (insert_key cmp ys x) ≤ 1 + length ys → length (match_ordering r (x ∷ y ∷ ys) (y ∷ ys) (y ∷ insert_key cmp ys x)) ≤ 1 + length (y ∷ ys)
      by Less rest = omega arith
      by Equal rest = omega arith
      by Greater rest = omega arith

  -- a new key makes the list one longer
  pub insert_longer : (x : X) (xs : List X) → (Contains xs x → ⊥) → length (insert_key cmp xs x) ≡ 1 + length xs
  insert_longer x xs new =
      let e : length (insert_key cmp xs x) ≡ length (placed cmp total same x xs) = ap (λ (zs : List X). length zs) (insert_is x xs) in
      let f : length (placed cmp total same x xs) ≡ suc (length xs) = length-placed cmp total same x xs new in
      omega (arith, e, f)

  -- and one that is there leaves it
  pub insert_again : (x : X) (xs : List X) → IsStrictlySortedBy cmp xs → Contains xs x → insert_key cmp xs x ≡ xs
  insert_again x xs rises there =
      let adds : Adds x xs (insert_key cmp xs x) = insert_adds x xs in
      same_rising cmp total same (insert_key cmp xs x) xs (insert_rises x xs rises) rises
      (λ z c. elim (adds.each z c) [ inl e ↦ subst (Contains xs) (sym e) there | inr d ↦ d ])
      (λ z c. adds.stays z c)
