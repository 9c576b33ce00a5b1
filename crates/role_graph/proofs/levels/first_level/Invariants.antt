use Rattle.role_graph.proofs.StepLemmas.{IsFirstLevel}
use Rattle.role_graph.proofs.levels.first_level.Given as goal

abbrev pub invariant-loop-place : goal.invariant-loop-place
invariant-loop-place l = IsFirstLevel l.rules l.place l.clashes.items l.level.items
