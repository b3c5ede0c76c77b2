use Rattle.std.proofs.Common.{◌≡◌, take}
use Rattle.ra_explain.specs.HitChanges.{ChangesSeen, unchanged, changed_by}
use Rattle.ra_explain.proofs.hit_changes.events_by.Given as goal

-- the events and the hits of the rows so far
abbrev pub invariant-loop-place : goal.invariant-loop-place
invariant-loop-place l =
    let so_far : ChangesSeen = changed_by (unchanged l.since) (take l.place l.changes) in
    record {
      hits : l.hits ≡ so_far.hits;
      events : l.list.items ≡ so_far.events;
    }
