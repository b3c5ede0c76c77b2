use Rattle.std.proofs.Common.{◌≡◌, take}
use Rattle.ra_member.specs.Laid.{left_nodes, right_nodes, operators}
use Rattle.ra_member.proofs.laid.sides_of.Given as goal

-- the sides so far
abbrev pub invariant-loop-place : goal.invariant-loop-place
invariant-loop-place l = record {
  ops : operators l.sides.items ≡ take l.place l.ops;
  lefts : left_nodes l.sides.items ≡ take l.place l.lefts;
  rights : right_nodes l.sides.items ≡ take l.place l.rights;
}
