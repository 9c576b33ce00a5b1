use Rattle.std.proofs.Common.{◌≡◌, take}
use Rattle.tree_witness.specs.Trees.{oriented_atoms}
use Rattle.tree_witness.proofs.oriented.oriented_atoms.Given as goal

abbrev pub invariant-loop-atom : goal.invariant-loop-atom
invariant-loop-atom l = l.oriented.items ≡ oriented_atoms (take l.atom-index l.atoms)
