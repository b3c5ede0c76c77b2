use Rattle.std.proofs.Common.{◌≡◌, ◌+◌, ◌++◌, take, drop, map, length, sum_by}
use Rattle.std.specs.List.{flat_map}
use Rattle.ra_account.specs.Wanting.{none_of, of_alts, of_first}
use Rattle.ra_account.proofs.gathering.gather_wants.Given as goal

-- what is written, and what is to be written of the alts that are left, are all; nothing is wanted of those yet
abbrev pub invariant-loop-alt : goal.invariant-loop-alt
invariant-loop-alt l = record {
  whole : take l.from l.wanted ++ of_first l.least (map (λ g. g.wants.items) (drop l.alt-index l.alts))
      ≡ l.core.wants.items ++ of_alts (map (λ g. g.wants.items) l.alts);
  rest : drop l.from l.wanted ≡ flat_map none_of (map (λ g. g.wants.items) (drop l.alt-index l.alts));
  room : l.from + sum_by (λ g. length g.wants.items) (drop l.alt-index l.alts) ≡ length l.wanted;
}
