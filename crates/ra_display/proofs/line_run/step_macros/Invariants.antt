use Rattle.ra_display.proofs.SteppedLines.{AreMacrosStepped}
use Rattle.ra_display.proofs.line_run.step_macros.Given as goal

abbrev pub invariant-loop-piece : goal.invariant-loop-piece
invariant-loop-piece l = AreMacrosStepped l.table l.pieces l.piece-index l.fn.member l.member l.place
