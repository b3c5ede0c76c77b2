use Rattle.std.proofs.Common.{◌%◌}
use Rattle.ra_value_format.proofs.Padding.{two_digits}
use Rattle.ra_value_format.proofs.texts.HundredthsDisplay.fmt.Goals as goal

pub returns-clause-writes : goal.returns-clause-writes
returns-clause-writes g c = λ plain ok.
    rw (c.laid_out.ensures, two_digits (c.args.self.now.0 % 100)) at (c.write.ensures.writes plain ok)
