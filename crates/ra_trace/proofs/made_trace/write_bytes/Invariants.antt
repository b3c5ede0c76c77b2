use Rattle.std.proofs.Common.{◌≡◌, ◌*◌, ◌-◌, []}
use Rattle.ra_trace.specs.Workload.{writes, drawn_times}
use Rattle.ra_trace.specs.Writing.{with_records}
use Rattle.ra_trace.proofs.made_trace.write_bytes.Given as goal

abbrev pub invariant-loop : goal.invariant-loop
invariant-loop l = record {
  size : l.writer.size ≡ 65536;
  records : with_records l.writer (writes (l.count - l.counter) l.draws [])
      ≡ with_records l.initial.writer (writes l.count l.initial.draws []);
  draws : drawn_times (2 * (l.count - l.counter)) l.draws ≡ drawn_times (2 * l.count) l.initial.draws;
}
