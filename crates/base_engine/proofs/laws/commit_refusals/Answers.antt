use Rattle.base_engine.proofs.RefusalTable.{commit_refusals}
use Rattle.base_engine.proofs.laws.commit_refusals.Goals as goal

pub returns : goal.returns
returns c = commit_refusals
