use Rattle.std.proofs.Common.{◌≡◌, take}
use Rattle.ra_explain.specs.HitChanges.{events_of}
use Rattle.ra_explain.specs.Replays.{contents_of}
use Rattle.ra_explain.proofs.checking.same_events.Given as goal

-- the events are the same so far
abbrev pub invariant-loop-place : goal.invariant-loop-place
invariant-loop-place l = events_of (take l.place l.changes) ≡ contents_of (take l.place l.events)
