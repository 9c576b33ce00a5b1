use Rattle.tree_witness.proofs.PassLemmas.{passes_by_trees}
use Rattle.tree_witness.proofs.laws.by_trees.Goals as goal

pub returns : goal.returns
returns c = passes_by_trees
