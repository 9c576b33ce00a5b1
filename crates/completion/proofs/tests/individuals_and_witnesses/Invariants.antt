use Rattle.completion.proofs.tests.individuals_and_witnesses.Given as goal

abbrev pub ghosts-assert_bases : goal.ghosts-assert_bases
ghosts-assert_bases g a = record { name = a.blank.name; parts = a.blank.parts }
