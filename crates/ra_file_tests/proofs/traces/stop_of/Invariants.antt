use Rattle.std.specs.Option.{IsSome}
use Rattle.ra_file_tests.proofs.traces.stop_of.Given as goal

abbrev pub invariant-loop : goal.invariant-loop
invariant-loop l = IsSome l.reader.size
