use Rattle.std.proofs.Common.{◌≡◌, ◌<◌, ℕ, Some, slice_get}
use Rattle.tree_witness.specs.declared.tree.ReachedTerm.{ReachedTerm}
use Rattle.tree_witness.proofs.tree.has_term.Given as goal

abbrev pub invariant-loop-other : goal.invariant-loop-other
invariant-loop-other l = (k : ℕ) (h : ReachedTerm) → k < l.other-index → slice_get l.tree k ≡ Some h → h.term ≡ l.term → ⊥
