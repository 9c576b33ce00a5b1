use Rattle.completion.proofs.NumberListLemmas.{AreAddedBelow}
use Rattle.completion.proofs.numbers.add_to_each.Given as goal

abbrev pub invariant-loop-place : goal.invariant-loop-place
invariant-loop-place l = AreAddedBelow l.number l.at l.properties l.initial.lists.items l.lists.items l.place
