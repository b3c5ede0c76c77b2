use Rattle.ra_why.proofs.taking.take_record.Given as goal

abbrev pub ghosts-take_frame : goal.ghosts-take_frame
ghosts-take_frame a = record { name = a.blank.name; parts = a.blank.parts }
