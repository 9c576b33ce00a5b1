use Rattle.axiom_reader.proofs.BlockOnce as once
use Rattle.axiom_reader.proofs.laws.block_gives_once.Goals as goal

pub returns : goal.returns
returns c = once.block_gives_once
