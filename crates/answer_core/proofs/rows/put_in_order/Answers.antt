use Rattle.std.proofs.Common.{Vec, Global, ℕ}
use Rattle.std.specs.Cmp.Lexicographic.{slice_cmp, on_texts, texts_ties}
use Rattle.std.specs.Ordering.{nat_cmp}
use Rattle.std.proofs.lemmas.Cmp.{on_equiv, nat_list_eq_equiv}
use Rattle.std.proofs.lemmas.List.Filters.{dedup_is}
use Rattle.std.proofs.lemmas.List.Kept.{Contains-from_dedup, IsStrictlySortedBy-dedup}
use Rattle.std.proofs.lemmas.List.Sorted.{Contains-permutation, IsPermutation-map, IsPermutation-sym}
use Rattle.dl_base.proofs.PlaceLemmas.{map_contains, map_from}
use Rattle.answer_core.proofs.KeySets.{dedup_reads, rising_reads, texts_same}
use Rattle.answer_core.proofs.rows.put_in_order.Goals as goal

pub returns-clause-rising : goal.returns-clause-rising
returns-clause-rising c =
    rw (dedup_is _ _ _ c.dedup.ensures.filtered)
    (rising_reads (λ k. k.items) (slice_cmp nat_cmp) _ (IsStrictlySortedBy-dedup (on_texts (λ x. x.items)) (λ x y. texts_ties x.items y.items) _ c.sort_unstable.ensures.sorted))

pub returns-clause-same : goal.returns-clause-same
returns-clause-same c =
    let is = dedup_is _ _ _ c.dedup.ensures.filtered in
    let moved = IsPermutation-map (λ (k : Vec ℕ Global). k.items) _ _ c.sort_unstable.ensures.permutation in
    λ row. (
      λ there. (
          let k = map_from (λ (k : Vec ℕ Global). k.items) _ row (rw is at there) in
          let c' = map_contains (λ (k : Vec ℕ Global). k.items) _ k.0 (Contains-from_dedup _ _ k.0 k.1) in
          Contains-permutation _ _ row (IsPermutation-sym _ _ moved) (rw (k.2) c')
          ),
      λ there. rw is (dedup_reads (λ (k : Vec ℕ Global). k.items) (on_equiv (λ k. k.items) nat_list_eq_equiv) (λ x y e. texts_same x.items y.items e) _ row (Contains-permutation _ _ row moved there)),
    )
