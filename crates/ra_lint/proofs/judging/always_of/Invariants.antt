use Rattle.std.proofs.Common.{◌≡◌, map, take}
use Rattle.ra_lint.proofs.judging.always_of.Given as goal

-- what the verdicts so far say
abbrev pub invariant-loop-verdict : goal.invariant-loop-verdict
invariant-loop-verdict l = l.always.items ≡ map (λ verdict. verdict.always) (take l.verdict-index l.verdicts)
