use Rattle.std.proofs.Common.{◌≡◌, ◌<◌, ℕ, true, false, slice_index, slice_index_or}
use Rattle.match_filter.specs.Links.{Linked}
use Rattle.match_filter.specs.Joining.{WaitsAbove}
use Rattle.match_filter.proofs.grounding.free_term.Given as goal

abbrev pub invariant-loop-k : goal.invariant-loop-k
invariant-loop-k l = (j : ℕ) → j < l.k → slice_index_or l.waiting j false ≡ true → WaitsAbove (Linked l.links) l.classes l.waiting (slice_index l.classes j)
