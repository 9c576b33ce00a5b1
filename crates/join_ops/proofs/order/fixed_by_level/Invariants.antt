use Rattle.std.proofs.Common.{◌≡◌, take}
use Rattle.join_ops.specs.Orders.{fixed_in}
use Rattle.join_ops.proofs.order.fixed_by_level.Given as goal

abbrev pub invariant-loop-term : goal.invariant-loop-term
invariant-loop-term l = l.leveled.items ≡ fixed_in (take l.term-index l.order) l.fixed
