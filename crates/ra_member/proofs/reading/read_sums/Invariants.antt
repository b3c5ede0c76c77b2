use Rattle.std.proofs.Common.{◌≡◌, map, take}
use Rattle.ra_member.specs.Readings.{sum_by_node}
use Rattle.ra_member.proofs.reading.read_sums.Given as goal

abbrev pub invariant-loop-place : goal.invariant-loop-place
invariant-loop-place l = take l.place l.sums ≡ map (sum_by_node l.table.values) (take l.place l.nodes)
