use Rattle.base_engine.proofs.RefusalTable.{line_refusals}
use Rattle.base_engine.proofs.laws.line_refusals.Goals as goal

pub returns : goal.returns
returns c = line_refusals
