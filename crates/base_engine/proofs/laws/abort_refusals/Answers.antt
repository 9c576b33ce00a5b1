use Rattle.base_engine.proofs.RefusalTable.{abort_refusals}
use Rattle.base_engine.proofs.laws.abort_refusals.Goals as goal

pub returns : goal.returns
returns c = abort_refusals
