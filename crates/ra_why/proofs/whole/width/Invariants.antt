use Rattle.std.proofs.Common.{◌+◌, ◌-◌, ◌*◌, ◌≤◌}
use Rattle.ra_why.proofs.TextLemmas.{IsSoFar}
use Rattle.ra_why.proofs.whole.width.Given as goal

-- a power of two, none smaller of which is enough
abbrev pub invariant-loop-width : goal.invariant-loop-width
invariant-loop-width l = record {
  known : IsSoFar l.frames l.width;
  some : 1 ≤ l.width;
  small : 30 * l.width ≤ l.frames + 30;
}

abbrev pub decreases-loop-width : goal.decreases-loop-width
decreases-loop-width l = l.frames - l.width
