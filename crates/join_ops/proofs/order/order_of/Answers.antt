use Rattle.std.proofs.Common.{List, [], take, sym, subst}
use Rattle.join_plan.specs.declared.steps.Step.{Step}
use Rattle.query_shape.specs.Shape.{AreFirsts, no_item}
use Rattle.join_ops.specs.Orders.{plan_terms}
use Rattle.join_ops.proofs.OrderLemmas.{terms_more}
use Rattle.join_ops.proofs.SearchSteps.{take_all}
use Rattle.join_ops.proofs.order.order_of.Goals as goal

pub loop-step-init : goal.loop-step-init
loop-step-init c = subst (AreFirsts []) (sym c.in_ok-order.ensures.items) no_item

pub loop-step-preserved : goal.loop-step-preserved
loop-step-preserved c = terms_more c.args.steps.now c.loop-step.step-index _ c.add_path.new.order.items c.loop-step-test.true (c.in_ok-add_path.ensures (plan_terms (take c.loop-step.step-index c.args.steps.now)) c.loop-step.invariant)

pub returns : goal.returns
returns c = subst (λ (l : List Step). AreFirsts (plan_terms l) c.loop-step.order.items) (take_all c.loop-step.step-index c.args.steps.now c.loop-step-test.false) c.loop-step.invariant
