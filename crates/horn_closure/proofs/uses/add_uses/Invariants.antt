use Rattle.std.proofs.Common.{ℕ, ◌≡◌, ◌<◌, ◌++◌, [], take, slice_index_or}
use Rattle.horn_closure.specs.Run.{copies, members_at}
use Rattle.horn_closure.proofs.uses.add_uses.Given as goal

abbrev pub invariant-loop-b : goal.invariant-loop-b
invariant-loop-b l = (p : ℕ) → p < 1024 → slice_index_or l.uses p [] ≡ slice_index_or l.fn.uses p [] ++ copies (members_at p (take l.b-index l.body)) l.i
