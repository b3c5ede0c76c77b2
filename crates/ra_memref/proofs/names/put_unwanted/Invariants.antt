use Rattle.std.proofs.Common.{◌≡◌, ◌≤◌, ◌-◌, replicate, false}
use Rattle.std.specs.Vec.{vec_capacity, vec_len}
use Rattle.ra_memref.proofs.names.put_unwanted.Given as goal

abbrev pub invariant-loop-wanted : goal.invariant-loop-wanted
invariant-loop-wanted l = record {
  none : l.wanted.items ≡ replicate (vec_len l.wanted) false;
  most : vec_len l.wanted ≤ l.count;
  room : vec_capacity l.wanted ≡ vec_capacity l.fn.wanted;
}

abbrev pub decreases-loop-wanted : goal.decreases-loop-wanted
decreases-loop-wanted l = l.count - vec_len l.wanted
