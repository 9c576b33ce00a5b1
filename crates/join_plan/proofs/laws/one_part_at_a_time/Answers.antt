use Rattle.join_plan.proofs.SmallPlans.{one_part_at_a_time}
use Rattle.join_plan.proofs.laws.one_part_at_a_time.Goals as goal

pub returns : goal.returns
returns c = one_part_at_a_time
