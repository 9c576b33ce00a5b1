use Rattle.std.proofs.Common.{◌<◌, ℕ, None, slice_index_or}
use Rattle.match_filter.proofs.ClassLemmas.{HasNoneLess}
use Rattle.match_filter.proofs.classes.unlike_parents.Given as goal

abbrev pub invariant-loop-link : goal.invariant-loop-link
invariant-loop-link l = (j : ℕ) → j < l.link-index → HasNoneLess l.links l.classes (slice_index_or l.links j None)
