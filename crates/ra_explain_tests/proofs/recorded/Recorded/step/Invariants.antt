use Rattle.ra_explain_tests.proofs.recorded.Recorded.step.Given as goal

abbrev pub ghosts-frame : goal.ghosts-frame
ghosts-frame a = record { name = a.blank.name; parts = a.blank.parts }
