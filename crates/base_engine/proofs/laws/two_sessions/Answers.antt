use Rattle.base_engine.proofs.SmallSteps.{two_sessions}
use Rattle.base_engine.proofs.laws.two_sessions.Goals as goal

pub returns : goal.returns
returns c = two_sessions
