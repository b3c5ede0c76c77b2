use Rattle.std.proofs.Common.{◌≡◌}
use Rattle.std.specs.Vec.{vec_capacity}
use Rattle.ra_memref.proofs.Wanted.{AreWantedFrom}
use Rattle.ra_memref.proofs.names.put_wanted.Given as goal

abbrev pub invariant-loop-left : goal.invariant-loop-left
invariant-loop-left l = record {
  wanted : AreWantedFrom l.nodes l.wanted.items l.left;
  room : vec_capacity l.wanted ≡ vec_capacity l.fn.wanted;
}

abbrev pub decreases-loop-left : goal.decreases-loop-left
decreases-loop-left l = l.left
