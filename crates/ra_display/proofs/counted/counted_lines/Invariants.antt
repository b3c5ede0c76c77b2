use Rattle.std.proofs.Common.{map, take}
use Rattle.ra_richpresence.specs.Contents.{line_contents}
use Rattle.ra_display.specs.Counted.{CountsLines}
use Rattle.ra_display.proofs.counted.counted_lines.Given as goal

abbrev pub invariant-loop-line : goal.invariant-loop-line
invariant-loop-line l = CountsLines l.fn.pool l.pool (map line_contents (take l.line-index l.lines)) l.hits l.numbers
