use Rattle.ra_memref.proofs.LateLemmas.{none_more, none_told}
use Rattle.ra_memref.proofs.late_watches.LateWatches.tell.Goals as goal

pub invariant_of-self : goal.invariant_of-self
invariant_of-self c =
    none_more c.mark_told.new.watches c.tell.new.self
    (none_told c.self.inside.told c.self.inside.watches c.mark_told.new.watches c.self.invariant.many
    c.mark_told.ensures).many c.tell.ensures.rest c.tell.ensures.long
