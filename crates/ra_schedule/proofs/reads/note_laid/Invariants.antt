use Rattle.ra_schedule.specs.Signals.{AreHeard, IsGivenRead, KeepsAll}
use Rattle.ra_schedule.proofs.reads.note_laid.Given as goal

-- the conditions so far are noted
abbrev pub invariant-loop-place : goal.invariant-loop-place
invariant-loop-place l = record {
  keeps : KeepsAll l.table.nodes l.initial.signals l.signals;
  heard : AreHeard l.signals l.laid l.place l.reader;
  read : IsGivenRead l.given l.laid l.place l.signals.readers l.reader;
}
