use Rattle.run_loop.proofs.tests.nothing_is_printed_where_none_is_loaded.Given as goal

abbrev pub ghosts-ends : goal.ghosts-ends
ghosts-ends g a = record { name = a.blank.name; parts = a.blank.parts }
