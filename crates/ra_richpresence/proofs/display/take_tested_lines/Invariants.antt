use Rattle.std.proofs.Common.{map, length}
use Rattle.ra_richpresence.specs.Contents.{line_contents}
use Rattle.ra_richpresence.specs.Following.{bytes_of}
use Rattle.ra_richpresence.specs.Reading.{left_only, tested_line_of, tested_lines_at}
use Rattle.ra_richpresence.proofs.Turns.{RunSoFar}
use Rattle.ra_richpresence.proofs.display.take_tested_lines.Given as goal

abbrev pub invariant-loop-lines : goal.invariant-loop-lines
invariant-loop-lines l = RunSoFar (left_only tested_line_of) (map line_contents l.tested.items)
    (bytes_of l.lines.rest.now) (tested_lines_at (bytes_of l.fn.lines.rest.now))

abbrev pub decreases-loop-lines : goal.decreases-loop-lines
decreases-loop-lines l = length l.lines.rest.now
