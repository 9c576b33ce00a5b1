use Rattle.base_engine.proofs.SmallSteps.{session_takes_changes}
use Rattle.base_engine.proofs.laws.session_takes_changes.Goals as goal

pub returns : goal.returns
returns c = session_takes_changes
