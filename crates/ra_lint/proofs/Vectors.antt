-- Ranges, computed from the definitions.
use Rattle.std.proofs.Common.{◌≡◌, refl}
use Rattle.ra_operand.specs.declared.kind.Kind.TheVariants.{Mem, Bcd, Inverted}
use Rattle.ra_operand.specs.declared.size.Size.TheVariants.{Byte, Bit0, Count, Four}
use Rattle.ra_operand.specs.declared.op.Op.TheVariants.{Div, Rem, Add, Sub, Xor}
use Rattle.ra_indirect.specs.Trees.{constant, view, join}
use Rattle.ra_lint.specs.Ranges.{range, range_of, any_number}

-- a bit count has nine numbers, its inversion stands at the top
count : range_of (view Mem Count (constant 0) 16) ≡ range 0 8
count = refl

inverted_count : range_of (view Inverted Count (constant 0) 16) ≡ range 247 255
inverted_count = refl

decimal_count : range_of (view Bcd Count (constant 0) 16) ≡ range 0 8
decimal_count = refl

decimal_byte : range_of (view Bcd Byte (constant 0) 16) ≡ range 0 165
decimal_byte = refl

decimal_four : range_of (view Bcd Four (constant 0) 16) ≡ range 0 166666665
decimal_four = refl

-- constants are computed, and wrap
wraps : range_of (join Sub (constant 0) (constant 1)) ≡ range 4294967295 4294967295
wraps = refl

difference : range_of (join Sub (constant 255) (view Mem Byte (constant 0) 16)) ≡ range 0 255
difference = refl

below_zero : range_of (join Sub (constant 254) (view Mem Byte (constant 0) 16)) ≡ any_number
below_zero = refl

by_zero : range_of (join Div (constant 7) (view Mem Byte (constant 0) 16)) ≡ any_number
by_zero = refl

by_some : range_of (join Div (constant 7) (join Add (view Mem Byte (constant 0) 16) (constant 1))) ≡ range 0 7
by_some = refl

rest : range_of (join Rem (view Mem Byte (constant 0) 16) (constant 10)) ≡ range 0 9
rest = refl

exclusive : range_of (join Xor (view Mem Bit0 (constant 0) 16) (constant 1)) ≡ any_number
exclusive = refl
