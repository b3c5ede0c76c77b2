use Rattle.std.proofs.Common.{◌∙◌}
use Rattle.ra_memref.proofs.LateLemmas.{none_told}
use Rattle.ra_memref.proofs.late_watches.LateWatches.saw_many.Goals as goal

pub invariant_of-self : goal.invariant_of-self
invariant_of-self c = none_told c.self.inside.told c.self.inside.watches c.saw_many.new.self c.self.invariant.many
    (c.saw_many.ensures ∙ c.mark_told.ensures)
