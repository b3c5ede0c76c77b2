-- Comparisons that are equal are one.
use Rattle.std.proofs.Common.{◌≡◌, rules, true}
use Rattle.ra_truths.specs.declared.comparison.Comparison.{Comparison}
use Rattle.ra_truths.specs.contracts.comparison.ComparisonPartialEq.TheImpl.{ghosts}

pub same : (a b : Comparison) → ghosts.eq a b ≡ true → a ≡ b
same a b equal = search rules

pub itself : (a : Comparison) → ghosts.eq a a ≡ true
itself a = search rules
