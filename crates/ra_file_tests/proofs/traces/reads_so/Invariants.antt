use Rattle.std.specs.Option.{IsSome}
use Rattle.ra_file_tests.proofs.traces.reads_so.Given as goal

abbrev pub invariant-loop-record : goal.invariant-loop-record
invariant-loop-record l = IsSome l.reader.size
