use Rattle.ra_runtime_tests.proofs.courses.banked.lines_of.Given as goal

abbrev pub ghosts-put_frame : goal.ghosts-put_frame
ghosts-put_frame a = record { name = a.blank.name; parts = a.blank.parts }
