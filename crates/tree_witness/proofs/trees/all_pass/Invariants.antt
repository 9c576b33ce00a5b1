use Rattle.std.proofs.Common.{◌<◌, ℕ, get_or}
use Rattle.tree_witness.specs.Trees.{PassesEntry}
use Rattle.tree_witness.specs.declared.trees.TreeEntry.{TreeEntry}
use Rattle.tree_witness.proofs.trees.all_pass.Given as goal

abbrev pub invariant-loop-entry : goal.invariant-loop-entry
invariant-loop-entry l = (k : ℕ) (d : TreeEntry) → k < l.entry-index → PassesEntry l.images (get_or l.entries k d)
