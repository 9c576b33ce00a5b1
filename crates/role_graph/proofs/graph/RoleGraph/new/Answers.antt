use Rattle.role_graph.proofs.graph.RoleGraph.new.Goals as goal

pub returns-clause-graph : goal.returns-clause-graph
returns-clause-graph g c = record { within = c.closures.ensures.within; closures = c.in_ok-closed.ensures.closures; first = c.in_ok-clashes.ensures }
