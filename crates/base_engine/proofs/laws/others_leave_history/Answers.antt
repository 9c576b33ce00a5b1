use Rattle.base_engine.proofs.RunLemmas.{others_leave_history}
use Rattle.base_engine.proofs.laws.others_leave_history.Goals as goal

pub returns : goal.returns
returns c = others_leave_history
