use Rattle.std.proofs.Common.{◌-◌, length}
use Rattle.tree_witness.proofs.TreeLemmas.{IsGrowing}
use Rattle.tree_witness.proofs.tree.tree.Given as goal

abbrev pub invariant-grows : goal.invariant-grows
invariant-grows l = IsGrowing l.terms l.oriented l.root l.tree.items

abbrev pub decreases-grows : goal.decreases-grows
decreases-grows l = l.terms - length l.tree.items
