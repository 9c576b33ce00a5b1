use Rattle.base_engine.proofs.RefusalTable.{block_refusals}
use Rattle.base_engine.proofs.laws.block_refusals.Goals as goal

pub returns : goal.returns
returns c = block_refusals
