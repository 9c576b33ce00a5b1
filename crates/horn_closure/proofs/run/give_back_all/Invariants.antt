use Rattle.std.proofs.Common.{ℕ, ◌≡◌, ◌+◌, ◌<◌, length, drop, slice_index}
use Rattle.horn_closure.specs.Run.{uses_at}
use Rattle.horn_closure.proofs.run.give_back_all.Given as goal

abbrev pub invariant-loop-place : goal.invariant-loop-place
invariant-loop-place l = (k : ℕ) → k < length l.fn.left → slice_index l.left k + uses_at k l.uses (drop l.place-index l.place-items) ≡ slice_index l.fn.left k + uses_at k l.uses l.queue
