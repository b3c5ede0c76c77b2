use Rattle.std.proofs.Common.{take}
use Rattle.ra_display.specs.Keeping.{PutsWords}
use Rattle.ra_display.proofs.keeping.put_row.Given as goal

-- the numbers so far
abbrev pub invariant-loop-place : goal.invariant-loop-place
invariant-loop-place l = record { puts : PutsWords l.fn.row l.row l.fn.at l.next (take l.place l.numbers) }
