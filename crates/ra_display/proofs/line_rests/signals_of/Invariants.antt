use Rattle.std.proofs.Common.{length, map}
use Rattle.ra_richpresence.specs.Contents.{line_contents}
use Rattle.ra_schedule.specs.Signals.{AreSignals}
use Rattle.ra_display.specs.LineRests.{AreLinesTold}
use Rattle.ra_display.proofs.line_rests.signals_of.Given as goal

abbrev pub invariant-loop-place : goal.invariant-loop-place
invariant-loop-place l =
    AreSignals l.table.nodes (AreLinesTold l.table.nodes (map line_contents l.lines)) (length l.lines) l.signals l.place
