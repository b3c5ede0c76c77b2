use Rattle.std.proofs.Common.{◌/◌, ◌%◌}
use Rattle.ra_value_format.proofs.Padding.{two_digits, below_an_hour, from_an_hour}
use Rattle.ra_value_format.proofs.texts.SecondsDisplay.fmt.Goals as goal

pub returns-then-self-lt-HOUR-clause-writes : goal.returns-then-self-lt-HOUR-clause-writes
returns-then-self-lt-HOUR-clause-writes g c = λ plain ok.
    rw (
      c.laid_out.ensures,
      two_digits (c.args.self.now.0 % 60),
      below_an_hour c.args.self.now.0 c.if-self-lt-HOUR.true,
    ) at (c.write.ensures.writes plain ok)

pub returns-clause-writes : goal.returns-clause-writes
returns-clause-writes g c = λ plain ok.
    rw (
      c.laid_out-2.ensures,
      c.laid_out-3.ensures,
      two_digits (c.args.self.now.0 / 60 % 60),
      two_digits (c.args.self.now.0 % 60),
      from_an_hour c.args.self.now.0 c.if-self-lt-HOUR.false,
    ) at (c.write-2.ensures.writes plain ok)
