use Rattle.std.proofs.Common.{◌≡◌, ◌≤◌, ◌-◌}
use Rattle.std.specs.Vec.{vec_capacity, vec_len}
use Rattle.ra_progress.proofs.filling.fill_up.Given as goal

abbrev pub invariant-loop-value : goal.invariant-loop-value
invariant-loop-value g l = record {
  most : vec_len l.row ≤ l.count;
  room : vec_capacity l.row ≡ vec_capacity l.fn.row;
}

abbrev pub decreases-loop-value : goal.decreases-loop-value
decreases-loop-value g l = l.count - vec_len l.row
