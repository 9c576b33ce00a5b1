use Rattle.std.proofs.Common.{◌≡◌, ◌++◌, take, drop}
use Rattle.answer_core.specs.Ranks.{ranks_of}
use Rattle.answer_core.proofs.ranks.put_ranks.Given as goal

abbrev pub invariant-loop-number : goal.invariant-loop-number
invariant-loop-number l = l.numbers ≡ ranks_of l.ranks (take l.number-index l.fn.numbers) ++ drop l.number-index l.fn.numbers
