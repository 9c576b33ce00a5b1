use Rattle.run_loop.proofs.tests.replies_come_in_order.Given as goal

abbrev pub ghosts-replies : goal.ghosts-replies
ghosts-replies g a = record { name = a.blank.name; parts = a.blank.parts }
