use Rattle.std.proofs.Common.{arith, ap, length}
use Rattle.ra_explain.specs.HitChanges.{unchanged}
use Rattle.ra_explain.proofs.ChangeLemmas.{changed_row}
use Rattle.ra_explain.proofs.hit_changes.HitChanges.events.Goals as goal

pub events_by-requires : goal.events_by-requires
events_by-requires c =
    let t = c.self.inside in
    omega (arith, changed_row (unchanged t.since) t.list.items, c.self.invariant.room, ap length c.deref.ensures.value)
