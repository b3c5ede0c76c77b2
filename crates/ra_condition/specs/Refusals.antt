-- Why a text is not read: docs/DEFINITIONS.md, "First bad place".
use Rattle.std.specs.Prelude.{ℕ}
use Rattle.ra_condition.specs.declared.refused.Refused.{Refused}
use Rattle.ra_condition.specs.declared.refused.Refused.TheVariants.{Syntax, Memory}

-- the fact holds of the place that a refusal tells, if it tells one
abbrev pub IfSyntax : Refused → (ℕ → Type 0) → Type 0
IfSyntax (Syntax place) P = P place
IfSyntax Memory P = Unit {0}
