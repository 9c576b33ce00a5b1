-- Sets of keys, seen by what a key is read as.
use Rattle.std.proofs.Common.{◌≡◌, ℕ, nat_eq, arith, false, ◌⊎◌, inl, inr, Bool, true, List, [], ◌∷◌, map, ◌++◌, Result, Ok, Err, OnOk, Contains, refl, sym, ◌∙◌, ap, subst}
use lib.Pointwise.{pointwise}
use Rattle.std.specs.Cmp.{IsEquivalence, IsTotalOrder}
use Rattle.std.specs.List.{AllByRecursion, dedup, list_any}
use Rattle.std.proofs.lemmas.Cmp.{nat_list_eq_equiv}
use Rattle.std.proofs.lemmas.List.Elements.{Contains-append_cases, Contains-append_left, Contains-append_right, Contains-push, Contains-push_cases}
use Rattle.std.proofs.lemmas.List.Kept.{Any-dedup}
use Rattle.std.specs.List.Sorted.{IsStrictlySortedBy}
use Rattle.std.specs.BTreeMap.{is_at}
use Rattle.std.specs.BTreeSet.{insert_key}
use Rattle.std.specs.declared.cmp.Ordering.{Ordering}
use Rattle.std.specs.declared.cmp.Ordering.TheVariants.{Less, Equal, Greater}
use Rattle.std.specs.Ordering.{is_eq, match_ordering, nat_cmp}
use Rattle.std.specs.Cmp.Lexicographic.{slice_cmp, texts_ties}
use Rattle.dl_base.proofs.RowLemmas.{name_same}
use Rattle.dl_base.proofs.PlaceLemmas.{map_contains, map_from}
use Rattle.dl_base.proofs.RisingLemmas.{placed, placed_adds, contains_cases, contains_first, contains_later}
use Rattle.answer_core.specs.Found.{AddsKey, HasLast, has_key}

module _ {K X : Type 0} (f : K → X) (R : X → X → Ordering) (total : IsTotalOrder R) (same : (x y : X) → R x y ≡ Equal → x ≡ y) where
  insert_reads : (k : K) (ks : List K) → map f (insert_key (λ a b. R (f a) (f b)) ks k) ≡ placed R total same (f k) (map f ks)
  insert_reads k [] = refl
  insert_reads k (x ∷ xs) = by (R (f k) (f x)) (insert_reads k xs)
    where
      by : (d : Ordering) → map f (insert_key (λ a b. R (f a) (f b)) xs k) ≡ placed R total same (f k) (map f xs)
          → map f (match_ordering d (k ∷ x ∷ xs) (x ∷ xs) (x ∷ insert_key (λ a b. R (f a) (f b)) xs k))
          ≡ match_ordering d (f k ∷ f x ∷ map f xs) (f x ∷ map f xs) (f x ∷ placed R total same (f k) (map f xs))
      by Less rest = refl
      by Equal rest = refl
      by Greater rest = ap (λ (zs : List X). f x ∷ zs) rest

  placed_key : (x : X) (xs : List X) → AddsKey xs x (placed R total same x xs)
  placed_key x xs z =
      let adds = placed_adds R total same x xs in (
        λ c. elim (adds.each z c) [ inl e ↦ inr e | inr d ↦ inl d ],
        λ either. elim either [ inl d ↦ adds.stays z d | inr e ↦ subst (Contains (placed R total same x xs)) (sym e) adds.there ],
      )

  -- what an insertion leaves has one more key
  pub inserted : (k : K) (ks new : List K) (x : X) (old : List X) → f k ≡ x → map f ks ≡ old → new ≡ insert_key (λ a b. R (f a) (f b)) ks k
      → AddsKey old x (map f new)
  inserted k ks new x old key was is =
      let reads : map f new ≡ placed R total same (f k) (map f ks) = ap (map f) is ∙ insert_reads k ks in
      let same_key : placed R total same (f k) (map f ks) ≡ placed R total same x old = λ j. placed R total same (key j) (was j) in
      subst (AddsKey old x) (sym (reads ∙ same_key)) (placed_key x old)

  -- what a look-up finds is a key
  pub looked_up : (q : X) (ks : List K) → list_any (is_at (λ k. R q (f k))) ks ≡ true → Contains (map f ks) q
  looked_up q [] is = absurd cc
  looked_up q (x ∷ xs) is = by (R q (f x)) refl (looked_up q xs)
    where
      by : (d : Ordering) → R q (f x) ≡ d → (list_any (is_at (λ k. R q (f k))) xs ≡ true → Contains (map f xs) q) → Contains (f x ∷ map f xs) q
      by Equal e rest = subst (Contains (f x ∷ map f xs)) (sym (same q (f x) e)) (contains_first (f x) (map f xs))
      by Less e rest = contains_later (f x) (map f xs) q (rest (rw e at is))
      by Greater e rest = contains_later (f x) (map f xs) q (rest (rw e at is))

-- a key that is there adds nothing
pub known_key : {X : Type 0} (xs : List X) (x : X) → Contains xs x → AddsKey xs x xs
known_key xs x there z = (λ c. inl c, λ either. elim either [ inl c ↦ c | inr e ↦ subst (Contains xs) (sym e) there ])

module _ {K X : Type 0} (f : K → X) (R : X → X → Ordering) where
  above_reads : (x : X) (ks : List K) → AllByRecursion (λ k. R x (f k) ≡ Less) ks → AllByRecursion (λ z. R x z ≡ Less) (map f ks)
  above_reads x [] all = tt
  above_reads x (k ∷ ks) all = (all.0, above_reads x ks all.1)

  -- the keys as they are read rise as the keys do
  pub rising_reads : (ks : List K) → IsStrictlySortedBy (λ a b. R (f a) (f b)) ks → IsStrictlySortedBy R (map f ks)
  unfolding IsStrictlySortedBy
  rising_reads [] rises = tt
  rising_reads (k ∷ ks) rises = (above_reads (f k) ks rises.0, rising_reads ks rises.1)

-- what is left of keys that count as the same is read as they were
module _ {K X : Type 0} (f : K → X) {E : K → K → Bool} (e : IsEquivalence E) (exact : (x y : K) → E x y ≡ true → f x ≡ f y) where
  pub dedup_reads : (ks : List K) (x : X) → Contains (map f ks) x → Contains (map f (dedup E ks)) x
  dedup_reads ks x c =
      let k = map_from f ks x c in
      let kept = Any-dedup e ks k.0 k.1 in
      subst (Contains (map f (dedup E ks))) (sym (k.2 ∙ exact k.0 kept.1 kept.4)) (map_contains f (dedup E ks) kept.1 (kept.0, kept.2, kept.3))

pub texts_same : (xs ys : List ℕ) → pointwise nat_eq xs ys ≡ true → xs ≡ ys
texts_same xs ys e = name_same xs ys (by (slice_cmp nat_cmp xs ys) (sym (texts_ties xs ys) ∙ e))
  where
    by : (o : Ordering) → is_eq o ≡ true → o ≡ Equal
    by Less e = absurd (cc)
    by Equal e = refl
    by Greater e = absurd (cc)

-- the test for a key tells whether it is there
key_cases : (keys : List (List ℕ)) (key k : List ℕ) (b : Bool) → pointwise nat_eq key k ≡ b → (has_key keys key ≡ true → Contains keys key) → has_key (k ∷ keys) key ≡ true → Contains (k ∷ keys) key
key_cases keys key k true is rest e = subst (Contains (k ∷ keys)) (sym (texts_same key k is)) (contains_first k keys)
key_cases keys key k false is rest e = contains_later k keys key (rest (rw is at e))

pub key_there : (keys : List (List ℕ)) (key : List ℕ) → has_key keys key ≡ true → Contains keys key
key_there [] key e = absurd (cc)
key_there (k ∷ keys) key e = key_cases keys key k (pointwise nat_eq key k) refl (key_there keys key) e

there_cases : (keys : List (List ℕ)) (key k : List ℕ) (b : Bool) → pointwise nat_eq key k ≡ b → (Contains keys key → has_key keys key ≡ true) → (key ≡ k) ⊎ Contains keys key → has_key (k ∷ keys) key ≡ true
there_cases keys key k true is rest either = rw is refl
there_cases keys key k false is rest (inl same) =
    let e : pointwise nat_eq key k ≡ true = subst (λ (x : List ℕ). pointwise nat_eq key x ≡ true) same (nat_list_eq_equiv.refl key) in
    let no : false ≡ true = sym is ∙ e in absurd (cc)
there_cases keys key k false is rest (inr c) = rw is (rest c)

pub has_there : (keys : List (List ℕ)) (key : List ℕ) → Contains keys key → has_key keys key ≡ true
has_there [] key c = absurd (omega (arith, c.1))
has_there (k ∷ keys) key c = there_cases keys key k (pointwise nat_eq key k) refl (has_there keys key) (contains_cases k keys key c)

pub last_there : (has : Bool) (last : List ℕ) (keys : List (List ℕ)) → has ≡ true → HasLast has last keys → Contains keys last
last_there true last keys is h = key_there keys last h
last_there false last keys is h = absurd (cc)

-- a key that is added to one of two lists is added to both
module _ {X : Type 0} where
  pub adds_behind : (first old new : List X) (key : X) → AddsKey old key new → AddsKey (first ++ old) key (first ++ new)
  adds_behind first old new key adds z = (
    λ c. elim (Contains-append_cases first new z c) [
      | inl d ↦ inl (Contains-append_left first old z d)
      | inr d ↦ elim ((adds z).0 d) [ inl e ↦ inl (Contains-append_right first old z e) | inr e ↦ inr e ]
    ],
    λ either. elim either [
      | inl c ↦ elim (Contains-append_cases first old z c) [
        | inl d ↦ Contains-append_left first new z d
        | inr d ↦ Contains-append_right first new z ((adds z).1 (inl d))
      ]
      | inr e ↦ Contains-append_right first new z ((adds z).1 (inr e))
    ],
  )

  pub adds_between : (first last : List X) (key : X) → AddsKey (first ++ last) key ((first ++ key ∷ []) ++ last)
  adds_between first last key z = (
    λ c. elim (Contains-append_cases (first ++ key ∷ []) last z c) [
      | inl d ↦ elim (Contains-push_cases first key z d) [ inl e ↦ inl (Contains-append_left first last z e) | inr e ↦ inr (sym e) ]
      | inr d ↦ inl (Contains-append_right first last z d)
    ],
    λ either. elim either [
      | inl c ↦ elim (Contains-append_cases first last z c) [
        | inl d ↦ Contains-append_left (first ++ key ∷ []) last z (Contains-append_left first (key ∷ []) z d)
        | inr d ↦ Contains-append_right (first ++ key ∷ []) last z d
      ]
      | inr e ↦ Contains-append_left (first ++ key ∷ []) last z (subst (Contains (first ++ key ∷ [])) (sym e) (Contains-push first key))
    ],
  )

  pub adds_behind_result : {U E : Type 0} (result : Result U E) (first old new : List X) (key : X) → OnOk result (AddsKey old key new) → OnOk result (AddsKey (first ++ old) key (first ++ new))
  adds_behind_result (Ok u) first old new key adds = adds_behind first old new key adds
  adds_behind_result (Err e) first old new key adds = tt
