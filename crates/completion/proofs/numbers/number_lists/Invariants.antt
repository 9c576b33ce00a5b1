use Rattle.std.proofs.Common.{map}
use Rattle.std.specs.Map.Iter.{deref_pair}
use Rattle.completion.proofs.NumberListLemmas.{AreChosenUpTo}
use Rattle.completion.proofs.numbers.number_lists.Given as goal

abbrev pub invariant-loop-number : goal.invariant-loop-number
invariant-loop-number l = AreChosenUpTo l.properties (map deref_pair l.yielded) l.lists.items
