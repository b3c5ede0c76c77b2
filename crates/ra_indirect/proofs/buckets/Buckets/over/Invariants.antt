use Rattle.std.proofs.Common.{◌<◌, length, take}
use Rattle.ra_indirect.specs.Buckets.{AreFiled}
use Rattle.ra_indirect.proofs.buckets.Buckets.over.Given as goal

-- the nodes so far are in the buckets
abbrev pub invariant-loop-number : goal.invariant-loop-number
invariant-loop-number l = record {
  filed : AreFiled (take l.number l.nodes) l.buckets;
  room : length l.nodes < length l.buckets.earlier.items;
}
