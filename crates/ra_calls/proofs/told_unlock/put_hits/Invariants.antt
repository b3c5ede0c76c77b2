use Rattle.std.proofs.Common.{◌≡◌, ◌++◌, map, take}
use Rattle.ra_calls.specs.ToldUnlocks.{told_hits}
use Rattle.ra_calls.proofs.told_unlock.put_hits.Given as goal

-- the events so far stand behind what was told
abbrev pub invariant-loop-event : goal.invariant-loop-event
invariant-loop-event l = l.told.items ≡ l.fn.told.items ++ map (told_hits l.place) (take l.event-index l.list)
