use Rattle.std.proofs.Common.{◌++◌, take}
use Rattle.ra_member.specs.Members.{MemberContents}
use Rattle.ra_schedule.specs.Counts.{AreFor}
use Rattle.ra_display.proofs.SteppedLines.{macros_in}
use Rattle.ra_display.proofs.line_counts.add_macros.Given as goal

-- the values of the pieces so far are added
abbrev pub invariant-loop-piece : goal.invariant-loop-piece
invariant-loop-piece l = record {
  adds : (m : MemberContents) → AreFor m l.initial.counts
      → AreFor (record m { values = m.values ++ macros_in (take l.piece-index l.pieces) }) l.counts;
}
