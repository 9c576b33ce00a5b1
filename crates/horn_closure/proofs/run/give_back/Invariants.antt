use Rattle.std.proofs.Common.{ℕ, ◌≡◌, ◌+◌, ◌<◌, length, drop, slice_index}
use Rattle.horn_closure.specs.Run.{count}
use Rattle.horn_closure.proofs.run.give_back.Given as goal

abbrev pub invariant-loop-i : goal.invariant-loop-i
invariant-loop-i l = (k : ℕ) → k < length l.fn.left → slice_index l.left k + count k (drop l.i-index l.uses) ≡ slice_index l.fn.left k + count k l.uses
