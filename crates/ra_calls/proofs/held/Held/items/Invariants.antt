use Rattle.std.proofs.Common.{◌≡◌, ◌++◌, ◌+◌, ◌<◌, ◌^◌, length, map}
use Rattle.ra_goals.specs.Goals.{goal_of}
use Rattle.ra_calls.specs.ToldItems.{told_from}
use Rattle.ra_calls.proofs.held.Held.items.Given as goal

-- the items that are left are not yet told
abbrev pub invariant-loop-goal : goal.invariant-loop-goal
invariant-loop-goal l = record {
  told : l.told.items ++ told_from l.fn.self l.place l.rest ≡ told_from l.fn.self 0 (map goal_of l.fn.self.set.items);
  count : l.place + length l.rest < 2 ^ 64;
}

abbrev pub decreases-loop-goal : goal.decreases-loop-goal
decreases-loop-goal l = length l.rest
