-- The range of a tree: docs/DEFINITIONS.md, "Ranges".
use Rattle.std.specs.Prelude.{ℕ, ◌+◌, ◌-◌, ◌*◌, ◌/◌, ◌^◌, ◌==◌, ◌&&◌, min, Bool, nat_le, if◌then◌else◌}
use Rattle.ra_operand.specs.declared.size.Size.{Size}
use Rattle.ra_operand.specs.declared.size.Size.TheVariants.{Count}
use Rattle.ra_operand.specs.declared.kind.Kind.{Kind}
use Rattle.ra_operand.specs.declared.kind.Kind.TheVariants.{Bcd, Inverted}
use Rattle.ra_operand.specs.declared.op.Op.{Op}
use Rattle.ra_operand.specs.declared.op.Op.TheVariants.{Mul, Div, And, Rem, Add, Sub}
use Rattle.ra_operand.specs.Views.{bits_of, as_decimal}
use Rattle.ra_operand.specs.Operators.{computed}
use Rattle.ra_indirect.specs.Trees.{Tree, constant, join, view}
use Rattle.ra_lint.specs.declared.range.Range.{Range}

-- from a least to a greatest number
abbrev pub range : ℕ → ℕ → Range
range least greatest = record { least = least; greatest = greatest }

-- all numbers of 32 bits
abbrev pub any_number : Range
any_number = range 0 4294967295

-- the range has one number
abbrev pub is_single : Range → Bool
is_single r = r.least == r.greatest

-- the greatest number that a size shows: all bits, or eight ones
abbrev pub most_of : Size → ℕ
most_of Count = 8
most_of size = 2 ^ bits_of size - 1

-- the range of a view of this kind and size
abbrev pub view_range : Kind → Size → Range
view_range Bcd size = range 0 (as_decimal 8 (most_of size))
view_range Inverted size = range (2 ^ bits_of size - 1 - most_of size) (2 ^ bits_of size - 1)
view_range _ size = range 0 (most_of size)

-- the range of an operator over two ranges that are not both single
abbrev pub joined_range : Op → Range → Range → Range
joined_range Add r s =
    if nat_le (r.greatest + s.greatest) 4294967295
    then range (r.least + s.least) (r.greatest + s.greatest) else any_number
joined_range Sub r s =
    if nat_le s.greatest r.least then range (r.least - s.greatest) (r.greatest - s.least) else any_number
joined_range Mul r s =
    if nat_le (r.greatest * s.greatest) 4294967295
    then range (r.least * s.least) (r.greatest * s.greatest) else any_number
joined_range And r s = range 0 (min r.greatest s.greatest)
joined_range Div r s = if nat_le 1 s.least then range (r.least / s.greatest) (r.greatest / s.least) else any_number
joined_range Rem r s = if nat_le 1 s.least then range 0 (min r.greatest (s.greatest - 1)) else any_number
joined_range _ r s = any_number

-- the range of an operator over two ranges
abbrev pub operator_range : Op → Range → Range → Range
operator_range op r s =
    if is_single r && is_single s then range (computed op r.least s.least) (computed op r.least s.least)
    else joined_range op r s

-- the range of a tree
abbrev pub range_of : Tree → Range
range_of (constant n) = range n n
range_of (join op left right) = operator_range op (range_of left) (range_of right)
range_of (view kind size pointer address) = view_range kind size
