use Rattle.base_engine.proofs.SmallSteps.{check_finds_none}
use Rattle.base_engine.proofs.laws.check_finds_none.Goals as goal

pub returns : goal.returns
returns c = check_finds_none
