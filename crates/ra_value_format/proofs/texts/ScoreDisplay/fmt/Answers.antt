use Rattle.std.proofs.Common.{w32, rules}
use Rattle.std.proofs.lemmas.Int.{to_z-of_z}
use Rattle.ra_value_format.proofs.Padding.{score_written}
use Rattle.ra_value_format.proofs.texts.ScoreDisplay.fmt.Goals as goal

pub returns-clause-writes : goal.returns-clause-writes
returns-clause-writes g c = λ plain ok.
    rw (
      c.laid_out.ensures,
      to_z-of_z w32 c.args.self.now.0 (search rules),
      score_written c.args.self.now.0,
    ) at (c.write.ensures.writes plain ok)
