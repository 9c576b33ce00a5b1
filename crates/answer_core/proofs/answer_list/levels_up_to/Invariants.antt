use Rattle.std.proofs.Common.{ℕ, ◌<◌, get_or, slice_index}
use Rattle.answer_core.proofs.answer_list.levels_up_to.Given as goal

abbrev pub invariant-loop-place : goal.invariant-loop-place
invariant-loop-place l = (k d : ℕ) → k < l.place-index → slice_index l.levels (get_or l.places k d) < l.most
