use Rattle.std.proofs.Common.{◌≡◌, length, ◌+◌, ◌-◌, ◌/◌, ◌≤◌}
use Rattle.ra_memref.specs.Flags.{AreBlocked, NoneSet}
use Rattle.ra_memref.proofs.flags.next_by_blocks.Given as goal

abbrev pub invariant-loop-block : goal.invariant-loop-block
invariant-loop-block l = record {
  same : l.flags ≡ l.fn.flags;
  none : NoneSet l.fn.flags l.from l.at;
  after : l.from ≤ l.at;
  tight : length l.blocks ≤ length l.fn.flags / 64 + 1;
  blocked : AreBlocked l.fn.flags l.blocks;
}

abbrev pub decreases-loop-block : goal.decreases-loop-block
decreases-loop-block l = length l.fn.flags - l.at
