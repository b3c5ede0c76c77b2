use Rattle.std.proofs.Common.{◌≡◌, map, take}
use Rattle.ra_normal.specs.Contents.{term_condition}
use Rattle.ra_normal.proofs.values.legacy_conditions.Given as goal

-- the conditions of the terms so far
abbrev pub invariant-loop-term : goal.invariant-loop-term
invariant-loop-term l = l.conditions.items ≡ map term_condition (take l.term-index l.terms)
