use Rattle.std.proofs.Common.{map, take}
use Rattle.ra_richpresence.specs.Contents.{line_contents}
use Rattle.ra_display.specs.NewPresence.{AreNewLines}
use Rattle.ra_display.proofs.presence_run.new_lines.Given as goal

abbrev pub invariant-loop-line : goal.invariant-loop-line
invariant-loop-line l = AreNewLines l.fn.pool l.pool (map line_contents (take l.line-index l.lines)) l.runs.items
