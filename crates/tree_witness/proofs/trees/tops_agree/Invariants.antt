use Rattle.std.proofs.Common.{◌<◌, ℕ, get_or}
use Rattle.tree_witness.specs.Trees.{TopAgrees}
use Rattle.tree_witness.specs.declared.tree.ReachedTerm.{ReachedTerm}
use Rattle.tree_witness.proofs.trees.tops_agree.Given as goal

abbrev pub invariant-loop-reached : goal.invariant-loop-reached
invariant-loop-reached l = (k : ℕ) (d : ReachedTerm) → k < l.reached-index → TopAgrees l.images l.top (get_or l.tree k d)
