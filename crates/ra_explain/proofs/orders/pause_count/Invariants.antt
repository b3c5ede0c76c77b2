use Rattle.std.proofs.Common.{◌≡◌, ◌≤◌, ◌+◌, length, drop}
use Rattle.ra_condition.specs.Chains.{ends_in_pause}
use Rattle.ra_group.specs.Along.{pause_count}
use Rattle.ra_explain.proofs.orders.pause_count.Given as goal

-- the conditions from the place on are counted
abbrev pub invariant-loop-place : goal.invariant-loop-place
invariant-loop-place l = record {
  counted : l.count ≡ pause_count (drop l.place l.conditions);
  pauses : l.pauses ≡ ends_in_pause (drop l.place l.conditions);
  few : l.count + l.place ≤ length l.conditions;
}
