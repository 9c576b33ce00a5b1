use Rattle.base_engine.proofs.SmallSteps.{tidy_keeps}
use Rattle.base_engine.proofs.laws.tidy_keeps.Goals as goal

pub returns : goal.returns
returns c = tidy_keeps
