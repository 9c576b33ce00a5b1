use Rattle.base_engine.proofs.RefusalTable.{ask_refusals}
use Rattle.base_engine.proofs.laws.ask_refusals.Goals as goal

pub returns : goal.returns
returns c = ask_refusals
