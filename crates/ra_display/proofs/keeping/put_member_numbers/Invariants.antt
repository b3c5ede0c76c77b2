use Rattle.std.proofs.Common.{take}
use Rattle.std.specs.List.{concat}
use Rattle.ra_display.specs.Keeping.{PutsWords}
use Rattle.ra_display.proofs.MemberRows.{value_numbers}
use Rattle.ra_display.proofs.keeping.put_member_numbers.Given as goal

-- the numbers of the values so far
abbrev pub invariant-loop-place : goal.invariant-loop-place
invariant-loop-place l = record {
  puts : PutsWords l.fn.row l.row l.fn.at l.next (concat (take l.place (value_numbers l.member)));
}
