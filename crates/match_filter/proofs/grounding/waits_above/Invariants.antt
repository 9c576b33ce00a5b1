use Rattle.std.proofs.Common.{◌<◌, ℕ, None, slice_index_or}
use Rattle.match_filter.proofs.GroundLemmas.{IsNotWaiting}
use Rattle.match_filter.proofs.grounding.waits_above.Given as goal

abbrev pub invariant-loop-link : goal.invariant-loop-link
invariant-loop-link l = (j : ℕ) → j < l.link-index → IsNotWaiting l.classes l.waiting l.class (slice_index_or l.links j None)
