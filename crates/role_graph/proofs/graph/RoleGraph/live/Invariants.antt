use Rattle.dl_base.specs.Ontology.{Terminology}
use Rattle.role_graph.specs.Graph.{IsGraphOf}
use Rattle.role_graph.proofs.ReachedLemmas.{AreReached}
use Rattle.dl_base.proofs.SetLemmas.{unset}
use Rattle.role_graph.proofs.graph.RoleGraph.live.Given as goal

abbrev pub invariant-loop-s : goal.invariant-loop-s
invariant-loop-s l = (o : Terminology) → IsGraphOf o l.self → AreReached o l.from l.live l.done

abbrev pub decreases-loop-s : goal.decreases-loop-s
decreases-loop-s l = unset l.done 512
