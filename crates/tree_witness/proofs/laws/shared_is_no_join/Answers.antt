use Rattle.tree_witness.proofs.Examples.{shared_is_no_join}
use Rattle.tree_witness.proofs.laws.shared_is_no_join.Goals as goal

pub returns : goal.returns
returns c = shared_is_no_join
