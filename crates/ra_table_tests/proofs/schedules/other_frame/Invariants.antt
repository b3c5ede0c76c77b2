use Rattle.ra_table_tests.proofs.schedules.other_frame.Given as goal

abbrev pub ghosts-frame : goal.ghosts-frame
ghosts-frame a = record { name = a.blank.name; parts = a.blank.parts }
