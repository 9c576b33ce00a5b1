use Rattle.base_engine.proofs.RunLemmas.{other_replies_leave_history}
use Rattle.base_engine.proofs.laws.other_replies_leave_history.Goals as goal

pub returns : goal.returns
returns c = other_replies_leave_history
