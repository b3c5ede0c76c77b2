use Rattle.std.proofs.Common.{◌≡◌, length, take}
use Rattle.ra_member.proofs.Lengths as rows
use Rattle.ra_member.proofs.shape.hits_of_tests.Given as goal

abbrev pub invariant-loop-test : goal.invariant-loop-test
invariant-loop-test l = l.hits ≡ length (rows.hits_of_tests (take l.test-index l.tests))
