use Rattle.std.proofs.Common.{◌≡◌, ◌≤◌, drop, map}
use Rattle.std.specs.Prelude.{min}
use Rattle.ra_account.specs.Wanting.{fewest_of}
use Rattle.ra_account.proofs.gathering.fewest.Given as goal

-- the fewest so far, and those of the rest, are the fewest of all
abbrev pub invariant-loop-alt : goal.invariant-loop-alt
invariant-loop-alt l = record {
  fewest : min l.least (fewest_of (map (λ g. g.wants.items) (drop l.alt-index l.alts)))
      ≡ fewest_of (map (λ g. g.wants.items) l.alts);
  fits : l.least ≤ 18446744073709551615;
}
