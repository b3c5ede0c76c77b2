-- Operands that some text spells: docs/DEFINITIONS.md, "What texts spell".
use Rattle.std.specs.Prelude.{◌^◌, ◌<◌}
use Rattle.ra_operand.specs.declared.operand.Operand.{Operand}
use Rattle.ra_operand.specs.declared.operand.Operand.TheVariants.{Cell, Const, Recall}

-- the number of the operand is one of 32 bits
abbrev pub Fits32 : Operand → Type 0
Fits32 (Cell kind size address) = address < 2 ^ 32
Fits32 (Const n) = n < 2 ^ 32
Fits32 Recall = Unit {0}
