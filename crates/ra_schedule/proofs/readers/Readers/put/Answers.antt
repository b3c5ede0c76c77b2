use Rattle.std.proofs.Common.{length, ap, arith}
use Rattle.std.proofs.lemmas.List.{length-set}
use Rattle.ra_schedule.proofs.readers.Readers.put.Goals as goal

pub invariant_of-self : goal.invariant_of-self
invariant_of-self c = λ node reader is.
    omega (
      arith,
      c.self.invariant node reader is,
      ap length c.put.ensures,
      length-set c.self.inside.due c.args.reader
          c.args.due,
    )
