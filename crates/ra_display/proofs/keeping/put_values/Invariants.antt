use Rattle.std.proofs.Common.{map, take}
use Rattle.std.specs.List.{concat}
use Rattle.ra_schedule.specs.Counts.{bit_rows}
use Rattle.ra_display.specs.Keeping.{PutsWords, seen_rows}
use Rattle.ra_display.proofs.keeping.put_values.Given as goal

-- the rows so far
abbrev pub invariant-loop-place : goal.invariant-loop-place
invariant-loop-place l = record {
  puts : PutsWords l.fn.row l.row l.fn.at l.next
      (concat (take l.place (seen_rows l.owed (bit_rows l.counts) (map (λ value. value.value.hits) l.values))));
}
