use Rattle.base_engine.proofs.AlikeSteps.{alike_step_alike}
use Rattle.base_engine.proofs.laws.alike_step_alike.Goals as goal

pub returns : goal.returns
returns c = alike_step_alike
