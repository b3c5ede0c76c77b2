use Rattle.std.proofs.Common.{◌%◌}
use Rattle.ra_value_format.proofs.Padding.{one_digit}
use Rattle.ra_value_format.proofs.texts.TenthsDisplay.fmt.Goals as goal

pub returns-clause-writes : goal.returns-clause-writes
returns-clause-writes g c = λ plain ok.
    rw (c.laid_out.ensures, one_digit (c.args.self.now.0 % 10)) at (c.write.ensures.writes plain ok)
