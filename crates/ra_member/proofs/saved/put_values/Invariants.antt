use Rattle.std.proofs.Common.{take}
use Rattle.ra_member.specs.MemberRuns.{PutsBehind}
use Rattle.ra_member.proofs.Lengths.{hits_of_values, numbers_of_values}
use Rattle.ra_member.proofs.saved.put_values.Given as goal

abbrev pub invariant-loop-value : goal.invariant-loop-value
invariant-loop-value l = record {
  hits : PutsBehind l.initial.hits.items l.hits.items (hits_of_values (take l.value-index l.values));
  numbers : PutsBehind l.initial.numbers.items l.numbers.items (numbers_of_values (take l.value-index l.values));
}
