use Rattle.base_engine.proofs.RefusalTable.{change_refusals}
use Rattle.base_engine.proofs.laws.change_refusals.Goals as goal

pub returns : goal.returns
returns c = change_refusals
