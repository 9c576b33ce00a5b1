use Rattle.horn_closure.proofs.tests.closes_by_hand.Given as goal

abbrev pub ghosts-assert_worked : goal.ghosts-assert_worked
ghosts-assert_worked g a = record { name = a.blank.name; parts = a.blank.parts }
