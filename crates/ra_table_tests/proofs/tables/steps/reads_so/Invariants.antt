use Rattle.ra_table_tests.proofs.tables.steps.reads_so.Given as goal

abbrev pub ghosts-reads : goal.ghosts-reads
ghosts-reads a = record { name = a.blank.name; parts = a.blank.parts }
