use Rattle.std.proofs.Common.{◌≡◌, take}
use Rattle.ra_explain.specs.HitChanges.{events_of}
use Rattle.ra_explain.specs.Replays.{contents_of}
use Rattle.ra_explain.proofs.compact.events_in.Given as goal

-- the events of the conditions so far
abbrev pub invariant-loop-own : goal.invariant-loop-own
invariant-loop-own l = contents_of l.events.items ≡ events_of (take l.own-index l.changes)
