use Rattle.base_engine.proofs.SmallSteps.{commit_of_nothing}
use Rattle.base_engine.proofs.laws.commit_of_nothing.Goals as goal

pub returns : goal.returns
returns c = commit_of_nothing
