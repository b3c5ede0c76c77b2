-- The number that stands for a comparison where comparisons are looked up by a hash.
use Rattle.std.specs.Prelude.{ℕ, ◌+◌, ◌*◌, ◌^◌}
use Rattle.ra_operand.specs.Same.{number_of_op}
use Rattle.ra_truths.specs.declared.comparison.Comparison.{Comparison}

-- a comparison as one number
abbrev pub packed : Comparison → ℕ
packed c = c.left + c.right * 2 ^ 32 + number_of_op c.op * 2 ^ 64
