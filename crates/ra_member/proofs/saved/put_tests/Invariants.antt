use Rattle.std.proofs.Common.{take}
use Rattle.ra_member.specs.MemberRuns.{PutsBehind}
use Rattle.ra_member.proofs.Lengths.{hits_of_tests}
use Rattle.ra_member.proofs.saved.put_tests.Given as goal

abbrev pub invariant-loop-test : goal.invariant-loop-test
invariant-loop-test l = PutsBehind l.initial.hits.items l.hits.items (hits_of_tests (take l.test-index l.tests))
