use Rattle.std.proofs.Common.{◌≡◌, length, take}
use Rattle.ra_member.proofs.Lengths as rows
use Rattle.ra_member.proofs.shape.shape_of_values.Given as goal

abbrev pub invariant-loop-value : goal.invariant-loop-value
invariant-loop-value l = record {
  hits : l.hits ≡ length (rows.hits_of_values (take l.value-index l.values));
  numbers : l.numbers ≡ length (rows.numbers_of_values (take l.value-index l.values));
}
