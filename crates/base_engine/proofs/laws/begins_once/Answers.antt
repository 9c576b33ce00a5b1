use Rattle.base_engine.proofs.RowsOnce.{begins_once}
use Rattle.base_engine.proofs.laws.begins_once.Goals as goal

pub returns : goal.returns
returns c = begins_once
