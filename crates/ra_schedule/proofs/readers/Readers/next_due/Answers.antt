use Rattle.std.proofs.Common.{length, ap, arith}
use Rattle.ra_schedule.proofs.readers.Readers.next_due.Goals as goal

pub invariant_of-self : goal.invariant_of-self
invariant_of-self c = λ node reader is.
    omega (arith, c.self.invariant node reader is, ap length c.next_from.ensures.same)
