use Rattle.base_engine.proofs.SmallSteps.{block_loads}
use Rattle.base_engine.proofs.laws.block_loads.Goals as goal

pub returns : goal.returns
returns c = block_loads
