use Rattle.std.proofs.Common.{List, ℕ, Vec, Global, [], subst, sym, arith}
use Rattle.std.specs.Cmp.{unsigned_ties}
use Rattle.std.proofs.lemmas.Cmp.{nat_cmp_total}
use Rattle.std.proofs.lemmas.List.{take_all}
use Rattle.std.proofs.lemmas.List.Filters.{dedup_is}
use Rattle.std.proofs.lemmas.List.Kept.{Contains-dedup_nat, Contains-from_dedup, IsStrictlySortedBy-dedup}
use Rattle.std.proofs.lemmas.List.Sorted.{Contains-permutation, IsPermutation-sym}
use Rattle.answer_core.specs.Ranks.{IsInRow, items_of}
use Rattle.answer_core.proofs.ListLemmas.{in_rows_more}
use Rattle.answer_core.proofs.rows.numbers_in.Goals as goal

pub loop-key-init : goal.loop-key-init
loop-key-init c = rw c.new-numbers.ensures.items (λ n. (λ there. absurd (let below = there.1 in omega (arith, below)), λ row. absurd (let below = row.1.1 in omega (arith, below))))

pub loop-key-preserved : goal.loop-key-preserved
loop-key-preserved c = rw (c.in_ok-extend_from_slice.ensures.items, c.as_slice.ensures.value) (in_rows_more c.args.keys.now c.loop-key.key-index c.key-item.result c.loop-key.numbers.items c.loop-key-test.true c.key-item.is c.loop-key.invariant)

pub returns-clause-rising : goal.returns-clause-rising
returns-clause-rising c = rw (dedup_is _ _ _ c.dedup.ensures.filtered) (IsStrictlySortedBy-dedup nat_cmp_total unsigned_ties _ c.sort_unstable.ensures.sorted)

pub returns-clause-each : goal.returns-clause-each
returns-clause-each c =
    let is = dedup_is _ _ _ c.dedup.ensures.filtered in
    let moved = c.sort_unstable.ensures.permutation in
    let whole = take_all c.loop-key.key-index c.args.keys.now c.loop-key-test.false in
    λ n. (
      λ there.
          let sorted = Contains-from_dedup _ _ n (rw is at there) in
          subst (λ (keys : List (Vec ℕ Global)). IsInRow (items_of keys) n) whole ((c.loop-key.invariant n).0 (Contains-permutation _ _ n (IsPermutation-sym _ _ moved) sorted)),
      λ row.
          let old = (c.loop-key.invariant n).1 (subst (λ (keys : List (Vec ℕ Global)). IsInRow (items_of keys) n) (sym whole) row) in
          rw is (Contains-dedup_nat _ n (Contains-permutation _ _ n moved old)),
    )
