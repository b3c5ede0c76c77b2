use Rattle.ra_runtime_tests.proofs.courses.watched.reads_of.Given as goal

abbrev pub ghosts-frame : goal.ghosts-frame
ghosts-frame a = record { name = a.blank.name; parts = a.blank.parts }

abbrev pub ghosts-follow : goal.ghosts-follow
ghosts-follow a = record { name = a.blank.name; parts = a.blank.parts }
