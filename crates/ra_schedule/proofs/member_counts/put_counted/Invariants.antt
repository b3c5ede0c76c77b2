use Rattle.std.proofs.Common.{◌≡◌, ◌++◌, take}
use Rattle.std.specs.List.{flat_map}
use Rattle.ra_schedule.proofs.member_counts.put_counted.Given as goal

-- the rows so far stand after the others
abbrev pub invariant-loop-own : goal.invariant-loop-own
invariant-loop-own l = l.row.items ≡ l.initial.row.items ++ flat_map (λ c. c.counted) (take l.own-index l.counts)
