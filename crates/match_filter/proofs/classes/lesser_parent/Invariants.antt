use Rattle.std.proofs.Common.{◌<◌, ℕ, None, slice_index_or}
use Rattle.match_filter.proofs.ClassLemmas.{IsNotLess}
use Rattle.match_filter.proofs.classes.lesser_parent.Given as goal

abbrev pub invariant-loop-other : goal.invariant-loop-other
invariant-loop-other l = (j : ℕ) → j < l.other-index → IsNotLess l.classes l.link.parent l.link.child (slice_index_or l.links j None)
