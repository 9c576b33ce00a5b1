use Rattle.std.proofs.Common.{◌≡◌, ◌<◌, ℕ, false, slice_index_or}
use Rattle.match_filter.proofs.grounding.none_waits.Given as goal

abbrev pub invariant-loop-waits : goal.invariant-loop-waits
invariant-loop-waits l = (k : ℕ) → k < l.waits-index → slice_index_or l.waiting k false ≡ false
