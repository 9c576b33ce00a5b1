use Rattle.join_plan.proofs.SmallPlans.{begins_with_b}
use Rattle.join_plan.proofs.laws.begins_with_b.Goals as goal

pub returns : goal.returns
returns c = begins_with_b
