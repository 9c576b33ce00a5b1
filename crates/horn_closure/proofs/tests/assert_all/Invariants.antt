use Rattle.horn_closure.specs.Closure.{IsScratchOf}
use Rattle.horn_closure.proofs.tests.assert_all.Given as goal

abbrev pub invariant-loop-held : goal.invariant-loop-held
invariant-loop-held g l = IsScratchOf l.rules l.scratch
