use Rattle.ra_memref.proofs.LateLemmas.{none_settled, none_told}
use Rattle.ra_memref.proofs.late_watches.LateWatches.settle.Goals as goal

pub invariant_of-self : goal.invariant_of-self
invariant_of-self g c =
    none_settled c.mark_told.new.watches c.settle.new.self c.args.cell c.args.place
    (none_told c.self.inside.told c.self.inside.watches c.mark_told.new.watches c.self.invariant.many
    c.mark_told.ensures).many c.settle.ensures.settled
