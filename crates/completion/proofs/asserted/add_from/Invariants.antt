use Rattle.completion.proofs.AssertedLemmas.{AreTakenFrom}
use Rattle.completion.proofs.asserted.add_from.Given as goal

abbrev pub invariant-loop-row : goal.invariant-loop-row
invariant-loop-row l = AreTakenFrom l.yielded l.individual l.initial.edges.items l.edges.items
