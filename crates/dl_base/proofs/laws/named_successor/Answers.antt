use Rattle.dl_base.proofs.WitnessExamples.{named_successor}
use Rattle.dl_base.proofs.laws.named_successor.Goals as goal

pub returns : goal.returns
returns c = named_successor
