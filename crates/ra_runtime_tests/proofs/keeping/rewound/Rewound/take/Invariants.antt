use Rattle.ra_runtime_tests.proofs.keeping.rewound.Rewound.take.Given as goal

-- the name and the parts of a ledger are those of the blank that is opened
abbrev pub ghosts-follow : goal.ghosts-follow
ghosts-follow a = record { name = a.blank.name; parts = a.blank.parts }
