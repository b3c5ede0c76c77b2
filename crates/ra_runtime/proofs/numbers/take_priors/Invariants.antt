use Rattle.std.proofs.Common.{◌≡◌, ◌<◌, true, ◌++◌, length, replicate, take, drop}
use Rattle.ra_runtime.proofs.numbers.take_priors.Given as goal

-- the first numbers are set, and the table is marked once one was set
abbrev pub invariant-loop-prior : goal.invariant-loop-prior
invariant-loop-prior l = record {
  is : l.table ≡ record l.fn.table {
    priors = take l.prior l.numbers ++ drop l.prior l.fn.table.priors;
    sampled = l.table.sampled;
    marked = l.table.marked;
  };
  marked : 0 < l.prior → l.table.marked ≡ replicate (length l.fn.table.cells) true;
  kept : l.prior ≡ 0 → l.table.marked ≡ l.fn.table.marked;
}
