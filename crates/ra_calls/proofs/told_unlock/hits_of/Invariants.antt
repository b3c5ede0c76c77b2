use Rattle.std.proofs.Common.{◌≡◌, ◌++◌, ◌+◌, length}
use Rattle.ra_explain.specs.Replays.{contents_of}
use Rattle.ra_calls.specs.ToldUnlocks.{all_hits}
use Rattle.ra_calls.proofs.told_unlock.hits_of.Given as goal

-- the events of the conditions that are left are not yet told
abbrev pub invariant-loop-own : goal.invariant-loop-own
invariant-loop-own l = record {
  told : l.told.items ++ all_hits l.place (contents_of l.rest) ≡ all_hits 0 (contents_of l.events);
  count : l.place + length l.rest ≡ length l.events;
}

abbrev pub decreases-loop-own : goal.decreases-loop-own
decreases-loop-own l = length l.rest
