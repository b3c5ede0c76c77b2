use Rattle.std.proofs.Common.{◌≡◌, ◌≤◌, ◌-◌, None, length, replicate}
use Rattle.ra_why.proofs.watcher.empty_slots.Given as goal

abbrev pub invariant-loop-slots : goal.invariant-loop-slots
invariant-loop-slots l = record {
  empty : l.slots.items ≡ replicate (length l.slots.items) None;
  few : length l.slots.items ≤ 16;
}

abbrev pub decreases-loop-slots : goal.decreases-loop-slots
decreases-loop-slots l = 16 - length l.slots.items
