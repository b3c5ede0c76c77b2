use Rattle.ra_runtime.proofs.playthrough.Playthrough.advance.Given as goal

abbrev pub ghosts-take_frame : goal.ghosts-take_frame
ghosts-take_frame a = record { name = a.blank.name; parts = a.blank.parts }
