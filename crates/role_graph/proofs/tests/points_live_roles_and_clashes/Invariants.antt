use Rattle.role_graph.proofs.tests.points_live_roles_and_clashes.Given as goal

abbrev pub ghosts-assert_graphs : goal.ghosts-assert_graphs
ghosts-assert_graphs g a = record { name = a.blank.name; parts = a.blank.parts }
