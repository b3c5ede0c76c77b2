use Rattle.std.proofs.Common.{◌%◌}
use Rattle.ra_value_format.proofs.Padding.{three_digits}
use Rattle.ra_value_format.proofs.texts.MillsDisplay.fmt.Goals as goal

pub returns-clause-writes : goal.returns-clause-writes
returns-clause-writes g c = λ plain ok.
    rw (c.laid_out.ensures, three_digits (c.args.self.now.0 % 1000)) at (c.write.ensures.writes plain ok)
