use Rattle.std.proofs.Common.{◌≡◌, ℕ, ◌<◌, get_or, slice_index}
use Rattle.answer_core.proofs.answer_list.has_level.Given as goal

abbrev pub invariant-loop-place : goal.invariant-loop-place
invariant-loop-place l = (k : ℕ) → k < l.place-index → slice_index l.levels (get_or l.places k 0) ≡ l.level → ⊥
