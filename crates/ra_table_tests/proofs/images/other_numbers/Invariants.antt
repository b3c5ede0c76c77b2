use Rattle.ra_table_tests.proofs.images.other_numbers.Given as goal

abbrev pub ghosts-numbers : goal.ghosts-numbers
ghosts-numbers a = record { name = a.blank.name; parts = a.blank.parts }
