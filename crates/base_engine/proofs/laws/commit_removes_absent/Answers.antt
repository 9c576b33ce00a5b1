use Rattle.base_engine.proofs.SmallSteps.{commit_removes_absent}
use Rattle.base_engine.proofs.laws.commit_removes_absent.Goals as goal

pub returns : goal.returns
returns c = commit_removes_absent
