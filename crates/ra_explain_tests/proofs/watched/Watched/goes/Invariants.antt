use Rattle.ra_explain_tests.proofs.watched.Watched.goes.Given as goal

abbrev pub ghosts-told : goal.ghosts-told
ghosts-told a = record { name = a.blank.name; parts = a.blank.parts }

abbrev pub ghosts-looked : goal.ghosts-looked
ghosts-looked a = record { name = a.blank.name; parts = a.blank.parts }
