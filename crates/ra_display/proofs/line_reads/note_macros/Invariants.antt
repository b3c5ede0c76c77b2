use Rattle.std.proofs.Common.{◌≡◌, length, take}
use Rattle.ra_schedule.specs.Inputs.{ValuesSeeSame}
use Rattle.ra_schedule.specs.Signals.{KeepsAll}
use Rattle.ra_schedule.specs.Waking.{IsTold}
use Rattle.ra_display.proofs.SteppedLines.{macros_in}
use Rattle.ra_display.proofs.line_reads.note_macros.Given as goal

-- the values of the pieces so far are noted
abbrev pub invariant-loop-piece : goal.invariant-loop-piece
invariant-loop-piece l = record {
  keeps : KeepsAll l.table.nodes l.initial.signals l.signals;
  place : l.place ≡ length (macros_in (take l.piece-index l.pieces));
  told : IsTold (λ now later. ValuesSeeSame now later (macros_in (take l.piece-index l.pieces)))
      l.table.nodes l.signals.comparisons l.signals.readers l.reader;
}
