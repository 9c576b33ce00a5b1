use Rattle.base_engine.proofs.SmallSteps.{reopen_closes_sessions}
use Rattle.base_engine.proofs.laws.reopen_closes_sessions.Goals as goal

pub returns : goal.returns
returns c = reopen_closes_sessions
