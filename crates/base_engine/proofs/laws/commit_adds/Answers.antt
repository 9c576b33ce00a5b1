use Rattle.base_engine.proofs.SmallSteps.{commit_adds}
use Rattle.base_engine.proofs.laws.commit_adds.Goals as goal

pub returns : goal.returns
returns c = commit_adds
