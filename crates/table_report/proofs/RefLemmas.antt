-- Entries by borrowed names, in order.
use Rattle.std.proofs.Common.{◌≡◌, ◌↔◌, Bool, true, false, List, [], ◌∷◌, map, Contains, refl, sym, ◌∙◌, subst}
use Rattle.std.specs.List.{AllByRecursion, dedup}
use Rattle.std.specs.List.Sorted.{IsSorted, IsStrictlySortedBy, IsPermutation}
use Rattle.std.specs.declared.cmp.Ordering.{Ordering}
use Rattle.std.specs.declared.cmp.Ordering.TheVariants.{Less, Equal, Greater}
use Rattle.std.specs.Ordering.{is_eq, eq_by_cmp, nat_cmp, ordering_then}
use Rattle.std.specs.Cmp.{IsEquivalence, IsTotalOrder}
use Rattle.std.proofs.lemmas.Cmp.{eq_by_cmp_equiv}
use Rattle.std.proofs.lemmas.List.Kept.{IsStrictlySortedBy-dedup, Any-dedup, Contains-from_dedup}
use Rattle.std.proofs.lemmas.List.Sorted.{Contains-permutation, IsPermutation-sym}
use Rattle.dl_base.proofs.PlaceLemmas.{map_contains, map_from}
use Rattle.dl_base.specs.Clashes.{inverse_cmp}
use Rattle.dl_base.specs.Rows.{name_cmp}
use Rattle.table_report.specs.TableLines.{Entry, named_role_cmp, member_cmp, entry_cmp}
use Rattle.table_report.specs.Gathered.{role_read, member_of, entry_of}
use Rattle.table_report.proofs.OrderLemmas.{entry_same}
use Rattle.table_report.specs.contracts.entry.RoleRefOrd.TheImpl.{cmp-value as role_order}
use Rattle.table_report.specs.contracts.entry.MemberRefOrd.TheImpl.{cmp-value as member_order}
use Rattle.table_report.specs.contracts.entry.EntryRefOrd.TheImpl.{cmp-value as ref_order}
use Rattle.table_report.specs.contracts.entry.EntryRefOrd.TheImpl.Laws as order_laws
use Rattle.table_report.specs.contracts.entry.EntryRefPartialEq.TheImpl.{eq-value as ref_eq}
use Rattle.table_report.specs.declared.entry.RoleRef.{RoleRef}
use Rattle.table_report.specs.declared.entry.MemberRef.{MemberRef}
use Rattle.table_report.specs.declared.entry.MemberRef.TheVariants as member
use Rattle.table_report.specs.declared.entry.EntryRef.{EntryRef}
use Rattle.table_report.specs.declared.entry.EntryRef.TheVariants as entry

abbrev pub ref_cmp : EntryRef → EntryRef → Ordering
ref_cmp x y = entry_cmp (entry_of x) (entry_of y)

equal_from : (r : Ordering) → is_eq r ≡ true → r ≡ Equal
equal_from Less h = absurd cc
equal_from Equal h = refl
equal_from Greater h = absurd cc

above_reads : (x : EntryRef) (xs : List EntryRef) → AllByRecursion (λ y. ref_cmp x y ≡ Less) xs → AllByRecursion (λ z. entry_cmp (entry_of x) z ≡ Less) (map entry_of xs)
above_reads x [] all = tt
above_reads x (y ∷ ys) all = (all.0, above_reads x ys all.1)

-- as they are read they rise too
rising_reads : (xs : List EntryRef) → IsStrictlySortedBy ref_cmp xs → IsStrictlySortedBy entry_cmp (map entry_of xs)
unfolding IsStrictlySortedBy
rising_reads [] rises = tt
rising_reads (x ∷ xs) rises = (above_reads x xs rises.0, rising_reads xs rises.1)

-- sorted by an order that reads entries as theirs does, and each kept once
module _ (cmp : EntryRef → EntryRef → Ordering) (total : IsTotalOrder cmp) (is : (x y : EntryRef) → cmp x y ≡ ref_cmp x y)
    (eq : EntryRef → EntryRef → Bool) (ties : (x y : EntryRef) → eq x y ≡ eq_by_cmp cmp x y) where
  pub sorted_rises : (xs : List EntryRef) → IsSorted cmp xs → IsStrictlySortedBy entry_cmp (map entry_of (dedup eq xs))
  sorted_rises xs sorted = rising_reads (dedup eq xs) (subst (λ (c : EntryRef → EntryRef → Ordering). IsStrictlySortedBy c (dedup eq xs)) (λ j x y. is x y j) (IsStrictlySortedBy-dedup total ties xs sorted))

  kept_once : (xs : List EntryRef) (y : EntryRef) → Contains xs y → Contains (map entry_of (dedup eq xs)) (entry_of y)
  kept_once xs y there =
      let kept = Any-dedup (subst (λ (e : EntryRef → EntryRef → Bool). IsEquivalence e) (λ j x z. sym (ties x z) j) (eq_by_cmp_equiv total)) xs y there in
      let z = kept.1 in
      let same : entry_of y ≡ entry_of z = entry_same (entry_of y) (entry_of z) (sym (is y z) ∙ equal_from (cmp y z) (sym (ties y z) ∙ kept.4)) in
      subst (Contains (map entry_of (dedup eq xs))) (sym same) (map_contains entry_of (dedup eq xs) z (kept.0, kept.2, kept.3))

  pub sorted_has : (xs ys : List EntryRef) → IsPermutation xs ys → (x : Entry) → Contains (map entry_of (dedup eq ys)) x ↔ Contains (map entry_of xs) x
  sorted_has xs ys moved x = (
    λ there.
        let found = map_from entry_of (dedup eq ys) x there in
        subst (Contains (map entry_of xs)) (sym found.2) (map_contains entry_of xs found.0 (Contains-permutation ys xs found.0 (IsPermutation-sym xs ys moved) (Contains-from_dedup eq ys found.0 found.1))),
    λ there.
        let found = map_from entry_of xs x there in
        subst (Contains (map entry_of (dedup eq ys))) (sym found.2) (kept_once ys found.0 (Contains-permutation xs ys found.0 moved found.1)),
  )

-- ---- the order that is derived for them

role_order_is : (r s : RoleRef) → role_order.it r s ≡ named_role_cmp (role_read r) (role_read s)
role_order_is r s = by r.inverse s.inverse
  where
    by : (b d : Bool) → role_order.it (record { name = r.name; inverse = b }) (record { name = s.name; inverse = d }) ≡ ordering_then (name_cmp r.name.now s.name.now) (inverse_cmp b d)
    by false false = refl
    by false true = refl
    by true false = refl
    by true true = refl

member_order_is : (x y : MemberRef) → member_order.it x y ≡ member_cmp (member_of x) (member_of y)
member_order_is (member.Individual a) (member.Individual b) = refl
member_order_is (member.Individual a) (member.Witness s) = refl
member_order_is (member.Witness r) (member.Individual b) = refl
member_order_is (member.Witness r) (member.Witness s) = role_order_is r s

order_is : (x y : EntryRef) → ref_order.it x y ≡ ref_cmp x y
order_is (entry.Witness r g) (entry.Witness s h) = λ j. ordering_then (role_order_is r s j) (nat_cmp g h)
order_is (entry.Witness r g) (entry.Concept d n) = refl
order_is (entry.Witness r g) (entry.Role q n k) = refl
order_is (entry.Concept c m) (entry.Witness s h) = refl
order_is (entry.Concept c m) (entry.Concept d n) = λ j. ordering_then (name_cmp c.now d.now) (member_order_is m n j)
order_is (entry.Concept c m) (entry.Role q n k) = refl
order_is (entry.Role p x y) (entry.Witness s h) = refl
order_is (entry.Role p x y) (entry.Concept d n) = refl
order_is (entry.Role p x y) (entry.Role q n k) = λ j. ordering_then (name_cmp p.now q.now) (ordering_then (member_order_is x n j) (member_order_is y k j))

pub in_order_rises : (xs : List EntryRef) → IsSorted ref_order.it xs → IsStrictlySortedBy entry_cmp (map entry_of (dedup ref_eq.it xs))
in_order_rises xs sorted = sorted_rises ref_order.it order_laws.total-law order_is ref_eq.it order_laws.matches_eq-law xs sorted

pub in_order_has : (xs ys : List EntryRef) → IsPermutation xs ys → (x : Entry) → Contains (map entry_of (dedup ref_eq.it ys)) x ↔ Contains (map entry_of xs) x
in_order_has xs ys moved x = sorted_has ref_order.it order_laws.total-law order_is ref_eq.it order_laws.matches_eq-law xs ys moved x
