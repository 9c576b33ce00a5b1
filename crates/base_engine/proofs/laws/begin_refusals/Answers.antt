use Rattle.base_engine.proofs.RefusalTable.{begin_refusals}
use Rattle.base_engine.proofs.laws.begin_refusals.Goals as goal

pub returns : goal.returns
returns c = begin_refusals
