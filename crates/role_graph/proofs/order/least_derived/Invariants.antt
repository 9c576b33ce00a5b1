use Rattle.std.proofs.Common.{take}
use Rattle.dl_base.specs.Sets.{HasBasic}
use Rattle.dl_base.specs.declared.concept.Basic.TheVariants as basic
use Rattle.role_graph.proofs.OrderLemmas.{LeastSoFar}
use Rattle.role_graph.proofs.order.least_derived.Given as goal

abbrev pub invariant-loop-s : goal.invariant-loop-s
invariant-loop-s l = LeastSoFar l.rules (λ s. HasBasic l.closed.derived (basic.Exists s)) (take l.s-index l.roles) l.least
