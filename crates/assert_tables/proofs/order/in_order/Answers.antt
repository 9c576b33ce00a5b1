use Rattle.std.proofs.Common.{◌≡◌, true, refl, sym, ◌∙◌}
use Rattle.std.specs.declared.cmp.Ordering.{Ordering}
use Rattle.std.specs.declared.cmp.Ordering.TheVariants.{Less, Equal, Greater}
use Rattle.std.specs.Ordering.{is_eq}
use Rattle.std.proofs.lemmas.List.Filters.{dedup_is}
use Rattle.std.proofs.lemmas.List.Kept.{IsStrictlySortedBy-dedup, Contains-dedup, Contains-from_dedup}
use Rattle.std.proofs.lemmas.List.Sorted.{Contains-permutation, IsPermutation-sym}
use Rattle.assert_tables.proofs.order.in_order.Goals as goal

equal_from : (r : Ordering) → is_eq r ≡ true → r ≡ Equal
equal_from Less h = absurd cc
equal_from Equal h = refl
equal_from Greater h = absurd cc

pub returns-clause-rising : goal.returns-clause-rising
returns-clause-rising g c =
    let is = dedup_is g.T.PartialEq.eq _ _ c.dedup.ensures.filtered in
    rw is (IsStrictlySortedBy-dedup g.met.T.Ord.total g.met.T.Ord.matches_eq _ c.sort_unstable.ensures.sorted)

pub returns-clause-same : goal.returns-clause-same
returns-clause-same g c = λ x.
    let is = dedup_is g.T.PartialEq.eq _ _ c.dedup.ensures.filtered in
    let moved = c.sort_unstable.ensures.permutation in (
      λ there. Contains-permutation _ _ x (IsPermutation-sym _ _ moved) (Contains-from_dedup g.T.PartialEq.eq _ x (rw is at there)),
      λ there. rw is (Contains-dedup g.met.T.Eq.laws (λ a b e. c.requires a b (equal_from _ (sym (g.met.T.Ord.matches_eq a b) ∙ e))) _ x (Contains-permutation _ _ x moved there)),
    )
