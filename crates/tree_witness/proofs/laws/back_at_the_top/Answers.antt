use Rattle.tree_witness.proofs.Examples.{back_at_the_top}
use Rattle.tree_witness.proofs.laws.back_at_the_top.Goals as goal

pub returns : goal.returns
returns c = back_at_the_top
