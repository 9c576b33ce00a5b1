use Rattle.base_engine.proofs.Outcomes.{accepted_steps}
use Rattle.base_engine.proofs.laws.accepted_steps.Goals as goal

pub returns : goal.returns
returns c = accepted_steps
