use Rattle.obda_run.proofs.serving.serve.Given as goal

abbrev pub ghosts-run_script : goal.ghosts-run_script
ghosts-run_script g a = record { name = a.blank.name; parts = a.blank.parts }

abbrev pub ghosts-run_sample : goal.ghosts-run_sample
ghosts-run_sample g a = record { name = a.blank.name; parts = a.blank.parts }
