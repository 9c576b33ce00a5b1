use Rattle.completion.proofs.ChoiceLemmas.{ChosenBelow}
use Rattle.completion.proofs.gather.witnesses_with.Given as goal

abbrev pub invariant-loop-name : goal.invariant-loop-name
invariant-loop-name l = ChosenBelow l.rules l.book l.property l.name l.witnesses.items
