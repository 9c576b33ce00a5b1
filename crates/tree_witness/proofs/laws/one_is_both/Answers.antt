use Rattle.tree_witness.proofs.Examples.{one_is_both}
use Rattle.tree_witness.proofs.laws.one_is_both.Goals as goal

pub returns : goal.returns
returns c = one_is_both
