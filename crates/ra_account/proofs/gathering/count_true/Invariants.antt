use Rattle.std.proofs.Common.{◌≡◌, ◌+◌, ◌≤◌, drop}
use Rattle.ra_account.specs.Counting.{count_of}
use Rattle.ra_account.proofs.gathering.count_true.Given as goal

-- those so far, and those of the rest, are all
abbrev pub invariant-loop-wanted : goal.invariant-loop-wanted
invariant-loop-wanted l = record {
  all : l.count + count_of (drop l.wanted-index l.wants) ≡ count_of l.wants;
  few : l.count ≤ l.wanted-index;
}
