use Rattle.std.proofs.Common.{◌≡◌, ◌++◌, take}
use Rattle.axiom_reader.proofs.copies.extend_copied.Given as goal

abbrev pub invariant-loop-basic : goal.invariant-loop-basic
invariant-loop-basic l = l.members ≡ l.fn.members ++ take l.basic-index l.more
