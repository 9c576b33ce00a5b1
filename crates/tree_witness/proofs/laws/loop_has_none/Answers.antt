use Rattle.tree_witness.proofs.Examples.{loop_has_none}
use Rattle.tree_witness.proofs.laws.loop_has_none.Goals as goal

pub returns : goal.returns
returns c = loop_has_none
