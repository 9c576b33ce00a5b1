use Rattle.base_engine.proofs.StepsOnce.{steps_once}
use Rattle.base_engine.proofs.laws.steps_once.Goals as goal

pub returns : goal.returns
returns c = steps_once
