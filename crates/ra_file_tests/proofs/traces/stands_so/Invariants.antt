use Rattle.std.specs.Option.{IsSome}
use Rattle.ra_file_tests.proofs.traces.stands_so.Given as goal

abbrev pub invariant-loop-place : goal.invariant-loop-place
invariant-loop-place l = IsSome l.reader.size
