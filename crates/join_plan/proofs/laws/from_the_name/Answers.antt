use Rattle.join_plan.proofs.SmallPlans.{from_the_name}
use Rattle.join_plan.proofs.laws.from_the_name.Goals as goal

pub returns : goal.returns
returns c = from_the_name
