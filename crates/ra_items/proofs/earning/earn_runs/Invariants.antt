use Rattle.std.proofs.Common.{◌≡◌, ◌++◌, take, drop}
use Rattle.ra_items.specs.Earning.{earned_runs}
use Rattle.ra_items.proofs.earning.earn_runs.Given as goal

-- those so far are earned too, and the rest are as they were
abbrev pub invariant-loop-place : goal.invariant-loop-place
invariant-loop-place l = record {
  done : take l.place l.runs ++ earned_runs (drop l.place l.earned) (drop l.place l.fn.runs)
      ≡ earned_runs l.earned l.fn.runs;
  rest : drop l.place l.runs ≡ drop l.place l.fn.runs;
}
