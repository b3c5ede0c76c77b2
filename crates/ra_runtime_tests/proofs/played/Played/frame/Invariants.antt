use Rattle.ra_runtime_tests.proofs.played.Played.frame.Given as goal

abbrev pub ghosts-take_frame : goal.ghosts-take_frame
ghosts-take_frame a = record { name = a.blank.name; parts = a.blank.parts }
