use Rattle.std.proofs.Common.{arith, refl}
use Rattle.ra_runtime.proofs.playthrough.Playthrough.take_frame.Goals as goal

pub returns-clause-reads : goal.returns-clause-reads
returns-clause-reads g c = rw (← c.self.view_is) (record {
  unmarked = c.frame.ensures.reads.unmarked;
  places = c.frame.ensures.reads.places;
  counted = refl;
})

pub returns-clause-counted : goal.returns-clause-counted
returns-clause-counted g c = rw (← c.self.view_is) (record {
  reads = _;
  few = c.frame.ensures.reads;
  counted = omega (arith, c.frame.new.image.counted, c.open-steps.ensures);
})
