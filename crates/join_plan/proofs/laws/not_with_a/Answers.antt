use Rattle.join_plan.proofs.SmallPlans.{not_with_a}
use Rattle.join_plan.proofs.laws.not_with_a.Goals as goal

pub returns : goal.returns
returns c = not_with_a
