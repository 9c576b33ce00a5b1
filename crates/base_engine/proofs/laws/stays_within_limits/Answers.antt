use Rattle.base_engine.proofs.StepsOnce.{stays_within}
use Rattle.base_engine.proofs.laws.stays_within_limits.Goals as goal

pub returns : goal.returns
returns c = stays_within
