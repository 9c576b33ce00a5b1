use Rattle.std.proofs.Common.{◌≡◌, ◌<◌, ℕ, Some, slice_get}
use Rattle.tree_witness.specs.Trees.{IsShut}
use Rattle.tree_witness.specs.declared.oriented.OrientedAtom.{OrientedAtom}
use Rattle.tree_witness.proofs.tree.next_atom.Given as goal

abbrev pub invariant-loop-atom : goal.invariant-loop-atom
invariant-loop-atom l = (k : ℕ) (a : OrientedAtom) → k < l.atom-index → slice_get l.oriented k ≡ Some a → IsShut l.root l.tree l.above a
