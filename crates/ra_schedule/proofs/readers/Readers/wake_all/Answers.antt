use Rattle.std.proofs.Common.{true, length, ap, arith}
use Rattle.std.proofs.lemmas.List.{length-replicate}
use Rattle.ra_schedule.proofs.readers.Readers.wake_all.Goals as goal

pub invariant_of-self : goal.invariant_of-self
invariant_of-self c = λ node reader is.
    omega (
      arith,
      c.self.invariant node reader is,
      ap length c.fill.ensures,
      length-replicate
          (length c.self.inside.due) true,
    )
