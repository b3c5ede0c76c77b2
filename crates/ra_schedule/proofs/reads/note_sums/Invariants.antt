use Rattle.ra_schedule.specs.Signals.{AreSumsRead, KeepsAll}
use Rattle.ra_schedule.proofs.reads.note_sums.Given as goal

-- the nodes so far are noted
abbrev pub invariant-loop-node : goal.invariant-loop-node
invariant-loop-node l = record {
  keeps : KeepsAll l.table.nodes l.initial.signals l.signals;
  read : AreSumsRead l.nodes l.node-index l.signals.readers l.reader;
}
