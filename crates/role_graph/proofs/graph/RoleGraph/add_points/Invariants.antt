use Rattle.dl_base.specs.Ontology.{Terminology}
use Rattle.role_graph.specs.Graph.{IsGraphOf}
use Rattle.role_graph.proofs.PointsLemmas.{AddsPoints}
use Rattle.role_graph.proofs.graph.RoleGraph.add_points.Given as goal

abbrev pub invariant-loop-name : goal.invariant-loop-name
invariant-loop-name l = (o : Terminology) → IsGraphOf o l.self → AddsPoints o l.s l.name l.initial.live l.live
