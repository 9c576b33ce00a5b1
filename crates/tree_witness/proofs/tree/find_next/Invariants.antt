use Rattle.std.proofs.Common.{◌≡◌, ◌<◌, ℕ, Some, slice_get, Contains}
use Rattle.tree_witness.specs.Trees.{IsShut}
use Rattle.tree_witness.specs.declared.oriented.OrientedAtom.{OrientedAtom}
use Rattle.tree_witness.specs.declared.tree.ReachedTerm.{ReachedTerm}
use Rattle.tree_witness.proofs.tree.find_next.Given as goal

abbrev pub invariant-loop-place : goal.invariant-loop-place
invariant-loop-place l = (k : ℕ) (h : ReachedTerm) → k < l.place → slice_get l.tree k ≡ Some h → (a : OrientedAtom) → Contains l.oriented a → IsShut l.root l.tree h a
