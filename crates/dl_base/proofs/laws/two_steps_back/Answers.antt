use Rattle.dl_base.proofs.WitnessExamples.{two_steps_back}
use Rattle.dl_base.proofs.laws.two_steps_back.Goals as goal

pub returns : goal.returns
returns c = two_steps_back
