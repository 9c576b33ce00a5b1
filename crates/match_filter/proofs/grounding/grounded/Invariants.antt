use Rattle.std.proofs.Common.{◌≡◌, ◌<◌, ℕ, false, slice_index_or}
use Rattle.match_filter.specs.Links.{Linked}
use Rattle.match_filter.specs.Joining.{IsGrounded}
use Rattle.match_filter.proofs.Totals.{waits}
use Rattle.match_filter.proofs.grounding.grounded.Given as goal

abbrev pub invariant-frees : goal.invariant-frees
invariant-frees l = (k : ℕ) → k < 24 → slice_index_or l.waiting k false ≡ false → IsGrounded (Linked l.links) k

abbrev pub decreases-frees : goal.decreases-frees
decreases-frees l = waits l.waiting
