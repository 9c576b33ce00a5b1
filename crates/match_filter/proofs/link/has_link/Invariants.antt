use Rattle.std.proofs.Common.{◌≡◌, ◌<◌, ℕ, None, slice_index_or}
use Rattle.match_filter.proofs.link.has_link.Given as goal

abbrev pub invariant-loop-link : goal.invariant-loop-link
invariant-loop-link l = (j : ℕ) → j < l.link-index → slice_index_or l.links j None ≡ None
