use Rattle.std.proofs.Common.{◌≤◌, length}
use Rattle.ra_jobs.proofs.Pieces.{Written}
use Rattle.ra_jobs.proofs.writing.write_all.Given as goal

abbrev pub invariant-loop-rest : goal.invariant-loop-rest
invariant-loop-rest g l = record {
  written : Written (g.K.Sink.text l.initial.out) (g.K.Sink.text l.out) l.bytes l.rest;
  later : g.K.Sink.faults l.initial.out ≤ g.K.Sink.faults l.out;
}

abbrev pub decreases-loop-rest : goal.decreases-loop-rest
decreases-loop-rest g l = length l.rest
