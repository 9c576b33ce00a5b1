use Rattle.std.proofs.Common.{◌≡◌, ◌<◌, ℕ, length, slice_index}
use Rattle.match_filter.proofs.classes.own_classes.Given as goal

abbrev pub invariant-loop-i : goal.invariant-loop-i
invariant-loop-i l = record {
  count : length l.classes ≡ 24;
  own : (j : ℕ) → j < l.i → slice_index l.classes j ≡ j;
}
