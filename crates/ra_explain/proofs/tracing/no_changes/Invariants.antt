use Rattle.std.proofs.Common.{◌≡◌, replicate}
use Rattle.ra_explain.specs.HitChanges.{unchanged}
use Rattle.ra_explain.proofs.tracing.no_changes.Given as goal

-- the conditions so far have no row
abbrev pub invariant-loop : goal.invariant-loop
invariant-loop l = l.changes.items ≡ replicate l.counter (unchanged l.since)
