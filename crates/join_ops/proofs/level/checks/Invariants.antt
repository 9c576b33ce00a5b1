use Rattle.join_ops.proofs.CheckLemmas.{ChecksSoFar}
use Rattle.join_ops.proofs.level.checks.Given as goal

abbrev pub invariant-loop-place : goal.invariant-loop-place
invariant-loop-place l = ChecksSoFar l.conditions l.source l.level l.place l.checks.items
