use Rattle.std.proofs.Common.{◌-◌, length, map}
use Rattle.ra_richpresence.specs.Contents.{line_contents}
use Rattle.ra_display.proofs.LineSteps.{AreLinesFar}
use Rattle.ra_display.proofs.line_rests.LineRests.step.Given as goal

abbrev pub invariant-loop-place : goal.invariant-loop-place
invariant-loop-place l =
    AreLinesFar l.table (map line_contents l.lines) l.fn.runs l.fn.self l.initial.self.schedule l.runs l.self l.at

abbrev pub decreases-loop-place : goal.decreases-loop-place
decreases-loop-place l = length l.lines - l.at
