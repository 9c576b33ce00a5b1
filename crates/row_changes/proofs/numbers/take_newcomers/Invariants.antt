use Rattle.std.proofs.Common.{◌≡◌, ◌++◌, take}
use Rattle.row_changes.proofs.numbers.take_newcomers.Given as goal

abbrev pub invariant-loop-number : goal.invariant-loop-number
invariant-loop-number l = l.individuals ≡ l.fn.individuals ++ take l.number l.newcomers
