use Rattle.role_graph.proofs.ReachedLemmas.{AreDone}
use Rattle.role_graph.proofs.graph.RoleGraph.waiting.Given as goal

abbrev pub invariant-loop-name : goal.invariant-loop-name
invariant-loop-name l = AreDone l.live l.done l.name
