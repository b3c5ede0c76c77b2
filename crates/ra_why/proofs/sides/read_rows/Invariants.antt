use Rattle.std.proofs.Common.{◌≡◌, ◌++◌, take, drop}
use Rattle.ra_member.specs.Laid.{left_nodes, right_nodes, operators}
use Rattle.ra_member.specs.Readings.{numbers_at, truths_by}
use Rattle.ra_why.proofs.sides.read_rows.Given as goal

-- the conditions so far are read and compared; what is still to be compared comes after them
abbrev pub invariant-loop-place : goal.invariant-loop-place
invariant-loop-place l = record {
  lefts : take l.place l.lefts ≡ numbers_at l.table.values (left_nodes (take l.place l.sides));
  rights : take l.place l.rights ≡ numbers_at l.table.values (right_nodes (take l.place l.sides));
  truths : truths_by (operators l.sides) (numbers_at l.table.values (left_nodes l.sides))
      (numbers_at l.table.values (right_nodes l.sides))
      ≡ take l.place l.truths ++ truths_by (operators (drop l.place l.sides))
      (numbers_at l.table.values (left_nodes (drop l.place l.sides)))
      (numbers_at l.table.values (right_nodes (drop l.place l.sides)));
}
