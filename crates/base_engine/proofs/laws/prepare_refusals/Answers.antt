use Rattle.base_engine.proofs.RefusalTable.{prepare_refusals}
use Rattle.base_engine.proofs.laws.prepare_refusals.Goals as goal

pub returns : goal.returns
returns c = prepare_refusals
