use Rattle.std.proofs.Common.{◌≡◌, ◌<◌, ℕ, get_or}
use Rattle.join_ops.proofs.order.level_in.Given as goal

abbrev pub invariant-loop-level : goal.invariant-loop-level
invariant-loop-level l = (k d : ℕ) → k < l.level → get_or l.order k d ≡ l.term → ⊥
