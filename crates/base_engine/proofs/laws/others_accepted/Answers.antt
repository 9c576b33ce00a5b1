use Rattle.base_engine.proofs.RefusalTable.{others_accepted}
use Rattle.base_engine.proofs.laws.others_accepted.Goals as goal

pub returns : goal.returns
returns c = others_accepted
