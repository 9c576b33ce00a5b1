use Rattle.base_engine.proofs.SmallSteps.{commit_adds_again}
use Rattle.base_engine.proofs.laws.commit_adds_again.Goals as goal

pub returns : goal.returns
returns c = commit_adds_again
