use Rattle.std.proofs.Common.{length, ◌-◌, ◌≡◌, ◌≤◌, take, true}
use Rattle.ra_richpresence.specs.Cut.{has_no_feed}
use Rattle.ra_richpresence.proofs.cut.feed_at.Given as goal

abbrev pub invariant-loop-at : goal.invariant-loop-at
invariant-loop-at l = record { within : l.at ≤ length l.text; clear : has_no_feed (take l.at l.text) ≡ true }

abbrev pub decreases-loop-at : goal.decreases-loop-at
decreases-loop-at l = length l.text - l.at
