use Rattle.role_graph.specs.Levels.{IsLevel}
use Rattle.role_graph.proofs.StepLemmas.{IsHalfway}
use Rattle.role_graph.proofs.levels.next_level.Given as goal

abbrev pub invariant-loop-place : goal.invariant-loop-place
invariant-loop-place l = (before : IsLevel l.rules l.fn.clashes l.level) → IsHalfway l.rules before.depth l.fn.clashes l.place l.clashes l.next.items
