use Rattle.base_engine.proofs.SmallSteps.{check_tells_first}
use Rattle.base_engine.proofs.laws.check_tells_first.Goals as goal

pub returns : goal.returns
returns c = check_tells_first
