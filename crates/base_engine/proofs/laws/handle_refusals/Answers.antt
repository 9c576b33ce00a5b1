use Rattle.base_engine.proofs.RefusalTable.{handle_refusals}
use Rattle.base_engine.proofs.laws.handle_refusals.Goals as goal

pub returns : goal.returns
returns c = handle_refusals
