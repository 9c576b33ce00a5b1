use Rattle.base_engine.proofs.SmallHandles.{prepare_keeps}
use Rattle.base_engine.proofs.laws.prepare_keeps.Goals as goal

pub returns : goal.returns
returns c = prepare_keeps
