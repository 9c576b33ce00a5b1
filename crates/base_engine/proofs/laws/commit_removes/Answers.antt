use Rattle.base_engine.proofs.SmallSteps.{commit_removes}
use Rattle.base_engine.proofs.laws.commit_removes.Goals as goal

pub returns : goal.returns
returns c = commit_removes
