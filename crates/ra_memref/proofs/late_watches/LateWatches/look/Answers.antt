use Rattle.ra_memref.proofs.LateLemmas.{none_more, none_told}
use Rattle.ra_memref.proofs.late_watches.LateWatches.look.Goals as goal

pub invariant_of-self : goal.invariant_of-self
invariant_of-self g c =
    none_more c.mark_told.new.watches c.look.new.self
    (none_told c.self.inside.told c.self.inside.watches c.mark_told.new.watches c.self.invariant.many
    c.mark_told.ensures).many c.look.ensures.marks.rest c.look.ensures.marks.long
