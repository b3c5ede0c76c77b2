-- Whether two sizes, kinds or operators are the same, as in trees that are one: docs/DEFINITIONS.md, "Trees, cells and
-- tracked masks".
use Rattle.std.specs.Prelude.{ℕ, ◌==◌, Bool}
use Rattle.ra_operand.specs.declared.size.Size.{Size}
use Rattle.ra_operand.specs.declared.size.Size.TheVariants.{Bit0, Bit1, Bit2, Bit3, Bit4, Bit5, Bit6, Bit7, Low, High}
use Rattle.ra_operand.specs.declared.size.Size.TheVariants.{Byte, Two, Three, Four, Count, TwoBig, ThreeBig, FourBig}
use Rattle.ra_operand.specs.declared.kind.Kind.{Kind}
use Rattle.ra_operand.specs.declared.kind.Kind.TheVariants.{Mem, Delta, Prior, Bcd, Inverted}
use Rattle.ra_operand.specs.declared.op.Op.{Op}
use Rattle.ra_operand.specs.declared.op.Op.TheVariants.{Bare, Eq, Ne, Lt, Le, Gt, Ge, Mul, Div, And, Xor, Rem, Add, Sub}

-- a number for each size
abbrev pub number_of_size : Size → ℕ
number_of_size Bit0 = 0
number_of_size Bit1 = 1
number_of_size Bit2 = 2
number_of_size Bit3 = 3
number_of_size Bit4 = 4
number_of_size Bit5 = 5
number_of_size Bit6 = 6
number_of_size Bit7 = 7
number_of_size Low = 8
number_of_size High = 9
number_of_size Byte = 10
number_of_size Two = 11
number_of_size Three = 12
number_of_size Four = 13
number_of_size Count = 14
number_of_size TwoBig = 15
number_of_size ThreeBig = 16
number_of_size FourBig = 17

-- a number for each kind
abbrev pub number_of_kind : Kind → ℕ
number_of_kind Mem = 0
number_of_kind Delta = 1
number_of_kind Prior = 2
number_of_kind Bcd = 3
number_of_kind Inverted = 4

-- a number for each operator
abbrev pub number_of_op : Op → ℕ
number_of_op Bare = 0
number_of_op Eq = 1
number_of_op Ne = 2
number_of_op Lt = 3
number_of_op Le = 4
number_of_op Gt = 5
number_of_op Ge = 6
number_of_op Mul = 7
number_of_op Div = 8
number_of_op And = 9
number_of_op Xor = 10
number_of_op Rem = 11
number_of_op Add = 12
number_of_op Sub = 13

-- the two sizes are one
abbrev pub same_size : Size → Size → Bool
same_size a b = number_of_size a == number_of_size b

-- the two kinds are one
abbrev pub same_kind : Kind → Kind → Bool
same_kind a b = number_of_kind a == number_of_kind b

-- the two operators are one
abbrev pub same_op : Op → Op → Bool
same_op a b = number_of_op a == number_of_op b
