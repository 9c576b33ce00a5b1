use Rattle.dl_base.proofs.WitnessExamples.{no_loop_yet_three_steps}
use Rattle.dl_base.proofs.laws.no_loop_yet_three_steps.Goals as goal

pub returns : goal.returns
returns c = no_loop_yet_three_steps
