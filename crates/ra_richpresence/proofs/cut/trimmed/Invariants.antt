use Rattle.std.proofs.Common.{◌≡◌, length}
use Rattle.ra_richpresence.specs.Cut.{trimmed}
use Rattle.ra_richpresence.proofs.cut.trimmed.Given as goal

abbrev pub invariant-loop-rest : goal.invariant-loop-rest
invariant-loop-rest l = trimmed l.line ≡ trimmed l.rest

abbrev pub decreases-loop-rest : goal.decreases-loop-rest
decreases-loop-rest l = length l.rest
