use Rattle.tree_witness.proofs.LawLemmas.{lifting}
use Rattle.tree_witness.proofs.laws.lifting.Goals as goal

pub returns : goal.returns
returns c = lifting
