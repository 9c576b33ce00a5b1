use Rattle.std.proofs.Common.{All, length}
use Rattle.join_plan.specs.Choice.{IsSized}
use Rattle.join_plan.specs.Plans.{BeginsLeast}
use Rattle.join_plan.proofs.PlanLemmas.{IsDraft}
use Rattle.join_plan.proofs.planner.plan.Given as goal

abbrev pub invariant-loop-left : goal.invariant-loop-left
invariant-loop-left g l = record {
  draft : IsDraft l.s l.left.items l.known.items l.steps.items;
  sized : All (IsSized (g.T.Tables.rows l.t)) l.left.items;
  least : BeginsLeast (g.T.Tables.rows l.t) l.s l.steps.items;
}

abbrev pub decreases-loop-left : goal.decreases-loop-left
decreases-loop-left g l = length l.left.items
