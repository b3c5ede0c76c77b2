use Rattle.std.proofs.Common.{◌≡◌, ◌++◌, take, drop}
use Rattle.ra_member.specs.Readings.{numbers_at, truths_by}
use Rattle.ra_explain.specs.RowLists.{truths_laid}
use Rattle.ra_explain.proofs.row.read_row.Given as goal

-- the truths so far, and those of the conditions behind them
abbrev pub invariant-loop-place : goal.invariant-loop-place
invariant-loop-place l = truths_laid l.table.values l.laid ≡ take l.place l.row ++ truths_by
    (drop l.place l.laid.ops) (numbers_at l.table.values (drop l.place
    l.laid.plan.lefts)) (numbers_at l.table.values (drop l.place l.laid.plan.rights))
