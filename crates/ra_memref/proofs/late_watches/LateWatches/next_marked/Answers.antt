use Rattle.std.proofs.Common.{◌∙◌}
use Rattle.ra_memref.proofs.LateLemmas.{none_told}
use Rattle.ra_memref.proofs.late_watches.LateWatches.next_marked.Goals as goal

pub invariant_of-self : goal.invariant_of-self
invariant_of-self c = none_told c.self.inside.told c.self.inside.watches c.next_marked.new.self c.self.invariant.many
    (c.next_marked.ensures.same ∙ c.mark_told.ensures)
