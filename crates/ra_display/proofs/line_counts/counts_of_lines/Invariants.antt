use Rattle.std.proofs.Common.{map, take}
use Rattle.ra_richpresence.specs.Contents.{line_contents}
use Rattle.ra_display.specs.LineRests.{HaveLineRooms}
use Rattle.ra_display.proofs.line_counts.counts_of_lines.Given as goal

-- the lines so far have their bits
abbrev pub invariant-loop-line : goal.invariant-loop-line
invariant-loop-line l = record { rooms : HaveLineRooms (map line_contents (take l.line-index l.lines)) l.each.items }
