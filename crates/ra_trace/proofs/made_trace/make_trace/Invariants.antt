use Rattle.std.proofs.Common.{◌≡◌, ◌-◌}
use Rattle.ra_trace.specs.Workload.{frames}
use Rattle.ra_trace.specs.Writing.{with_records}
use Rattle.ra_trace.proofs.made_trace.make_trace.Given as goal

abbrev pub invariant-loop-frame : goal.invariant-loop-frame
invariant-loop-frame l = record {
  size : l.writer.size ≡ 65536;
  records : with_records l.writer (frames (4096 - l.frame) l.frame l.draws)
      ≡ with_records l.initial.writer (frames 4096 0 l.initial.draws);
}
