use Rattle.base_engine.proofs.SmallSteps.{abort_forgets}
use Rattle.base_engine.proofs.laws.abort_forgets.Goals as goal

pub returns : goal.returns
returns c = abort_forgets
