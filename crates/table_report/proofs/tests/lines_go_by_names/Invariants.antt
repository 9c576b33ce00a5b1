use Rattle.table_report.proofs.tests.lines_go_by_names.Given as goal

abbrev pub ghosts-assert_small_lines : goal.ghosts-assert_small_lines
ghosts-assert_small_lines g a = record { name = a.blank.name; parts = a.blank.parts }
