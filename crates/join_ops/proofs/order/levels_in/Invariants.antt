use Rattle.std.proofs.Common.{◌≡◌, ℕ, Some, length, slice_get}
use Rattle.join_ops.proofs.order.levels_in.Given as goal

abbrev pub invariant-loop-term : goal.invariant-loop-term
invariant-loop-term l = record {
  count : length l.levels.items ≡ l.term;
  each : (term level : ℕ) → slice_get l.levels.items term ≡ Some level → slice_get l.order level ≡ Some term;
}
