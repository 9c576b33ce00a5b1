use Rattle.clash_report.proofs.tests.a_name_in_no_row_is_passed_over.Given as goal

abbrev pub ghosts-assert_least_of_the_rows : goal.ghosts-assert_least_of_the_rows
ghosts-assert_least_of_the_rows g a = record { name = a.blank.name; parts = a.blank.parts }
