use Rattle.std.proofs.Common.{take}
use Rattle.query_shape.specs.Shape.{AreFirsts}
use Rattle.join_ops.specs.Orders.{plan_terms}
use Rattle.join_ops.proofs.order.order_of.Given as goal

abbrev pub invariant-loop-step : goal.invariant-loop-step
invariant-loop-step l = AreFirsts (plan_terms (take l.step-index l.steps)) l.order.items
