use Rattle.std.proofs.Common.{◌≡◌, ◌<◌, ◌++◌, All, length, map}
use Rattle.std.specs.Vec.Iter.{into_iter_items}
use Rattle.answer_core.specs.Ranks.{ranks_of, items_of}
use Rattle.answer_core.proofs.rows.ranked.Given as goal

abbrev pub invariant-loop-key : goal.invariant-loop-key
invariant-loop-key l = record {
  rows : items_of l.rows.items ++ map (ranks_of l.ranks) (items_of (into_iter_items l.key-iterator)) ≡ map (ranks_of l.ranks) (items_of l.fn.keys.items);
  left : All (All (λ n. n < length l.ranks)) (items_of (into_iter_items l.key-iterator));
}
