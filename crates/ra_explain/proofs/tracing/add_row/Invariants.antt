use Rattle.std.proofs.Common.{◌≡◌, ◌++◌, take, drop}
use Rattle.ra_explain.specs.HitChanges.{with_rows}
use Rattle.ra_explain.proofs.tracing.add_row.Given as goal

-- the first conditions have a row more, the others are as they were
abbrev pub invariant-loop-place : goal.invariant-loop-place
invariant-loop-place l = l.changes ≡ take l.place (with_rows l.fn.changes l.after) ++ drop l.place l.fn.changes
