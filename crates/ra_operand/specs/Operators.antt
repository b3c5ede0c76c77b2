-- Arithmetic modulo 2^32 and comparisons without sign: docs/DEFINITIONS.md, "Operators".
use Rattle.std.specs.Prelude.{ℕ, ◌+◌, ◌-◌, ◌*◌, ◌/◌, ◌%◌, ◌^◌, ◌==◌, Bool, true, false, not, if◌then◌else◌, nat_lt}
use Rattle.std.specs.Prelude.{nat_le, bit_and, bit_xor}
use Rattle.ra_operand.specs.declared.op.Op.{Op}
use Rattle.ra_operand.specs.declared.op.Op.TheVariants.{Bare, Eq, Ne, Lt, Le, Gt, Ge, Mul, Div, And, Xor, Rem, Add, Sub}

-- no operator stands there
abbrev pub is_bare : Op → Bool
is_bare Bare = true
is_bare _ = false

-- the operator is one of the seven arithmetic ones
abbrev pub is_arithmetic : Op → Bool
is_arithmetic Mul = true
is_arithmetic Div = true
is_arithmetic And = true
is_arithmetic Xor = true
is_arithmetic Rem = true
is_arithmetic Add = true
is_arithmetic Sub = true
is_arithmetic _ = false

-- two numbers by an arithmetic operator, modulo 2^32; a quotient and a remainder by 0 are 0
abbrev pub computed : Op → ℕ → ℕ → ℕ
computed Mul x y = x * y % 2 ^ 32
computed Div x y = if y == 0 then 0 else x / y
computed And x y = bit_and x y
computed Xor x y = bit_xor x y
computed Rem x y = if y == 0 then 0 else x % y
computed Add x y = (x + y) % 2 ^ 32
computed Sub x y = (x + (2 ^ 32 - y)) % 2 ^ 32
computed _ x y = 0

-- the comparison of two numbers without sign, true without an operator
abbrev pub compared : Op → ℕ → ℕ → Bool
compared Bare x y = true
compared Eq x y = x == y
compared Ne x y = not (x == y)
compared Lt x y = nat_lt x y
compared Le x y = nat_le x y
compared Gt x y = nat_lt y x
compared Ge x y = nat_le y x
compared _ x y = false
