use Rattle.std.proofs.Common.{arith}
use Rattle.ra_display.proofs.ShownLines.{first_set, none_set}
use Rattle.ra_display.proofs.line_rests.LineRests.first.Goals as goal

pub returns-in-Some-clause-first : goal.returns-in-Some-clause-first
returns-in-Some-clause-first c = first_set c.args.self.now.holds c.in-Some.place c.in-Some.ensures.first

pub returns-in-None-clause-first : goal.returns-in-None-clause-first
returns-in-None-clause-first c =
    omega (arith, c.len.ensures, c.requires, none_set c.args.self.now.holds (c.first.ensures.none c.in-None.is))
