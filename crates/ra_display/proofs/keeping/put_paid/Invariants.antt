use Rattle.std.proofs.Common.{◌+◌, ◌*◌, take}
use Rattle.ra_schedule.specs.Counted.{owed_by}
use Rattle.ra_display.specs.Keeping.{PutsWords}
use Rattle.ra_display.proofs.keeping.put_paid.Given as goal

-- the hits of the turns so far, paid
abbrev pub invariant-loop-four : goal.invariant-loop-four
invariant-loop-four l = record {
  puts : PutsWords l.fn.row l.row l.fn.at (l.fn.at + 4 * (4 * l.four))
      (take (4 * l.four) (owed_by l.frames l.counted l.hits));
}

-- and those after them so far
abbrev pub invariant-loop-left : goal.invariant-loop-left
invariant-loop-left l = record {
  puts : PutsWords l.fn.row l.row l.fn.at (l.fn.at + 4 * (4 * l.fours + l.left))
      (take (4 * l.fours + l.left) (owed_by l.frames l.counted l.hits));
}
