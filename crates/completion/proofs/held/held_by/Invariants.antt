use Rattle.completion.proofs.HeldLemmas.{AreHeld}
use Rattle.completion.proofs.held.held_by.Given as goal

abbrev pub invariant-loop-row : goal.invariant-loop-row
invariant-loop-row l = AreHeld l.yielded l.individual l.held
