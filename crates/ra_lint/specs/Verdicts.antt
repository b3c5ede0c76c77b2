-- What the ranges say of a comparison: docs/DEFINITIONS.md, "Comparisons that never or always hold".
use Rattle.std.specs.Prelude.{◌==◌, ◌&&◌, not, min, max, Bool, true, false, nat_lt, nat_le, if◌then◌else◌}
use Rattle.ra_operand.specs.declared.op.Op.{Op}
use Rattle.ra_operand.specs.declared.op.Op.TheVariants.{Bare, Eq, Ne, Lt, Le, Gt, Ge}
use Rattle.ra_indirect.specs.Trees.{Tree, same_tree}
use Rattle.ra_lint.specs.declared.range.Range.{Range}
use Rattle.ra_lint.specs.Ranges.{range_of}

-- the comparison holds of every number and itself
abbrev pub is_reflexive : Op → Bool
is_reflexive Bare = true
is_reflexive Eq = true
is_reflexive Le = true
is_reflexive Ge = true
is_reflexive _ = false

-- the ranges have a number in common
abbrev pub meet : Range → Range → Bool
meet r s = nat_le (max r.least s.least) (min r.greatest s.greatest)

-- both ranges are one and the same number
abbrev pub are_one : Range → Range → Bool
are_one r s = r.least == r.greatest && (s.least == s.greatest && r.least == s.least)

-- some two numbers of the ranges meet the comparison
abbrev pub some_meet : Op → Range → Range → Bool
some_meet Bare r s = true
some_meet Eq r s = meet r s
some_meet Ne r s = not (are_one r s)
some_meet Lt r s = nat_lt r.least s.greatest
some_meet Le r s = nat_le r.least s.greatest
some_meet Gt r s = nat_lt s.least r.greatest
some_meet Ge r s = nat_le s.least r.greatest
some_meet _ r s = false

-- all two numbers of the ranges meet it
abbrev pub all_meet : Op → Range → Range → Bool
all_meet Bare r s = true
all_meet Eq r s = are_one r s
all_meet Ne r s = not (meet r s)
all_meet Lt r s = nat_lt r.greatest s.least
all_meet Le r s = nat_le r.greatest s.least
all_meet Gt r s = nat_lt s.greatest r.least
all_meet Ge r s = nat_le s.greatest r.least
all_meet _ r s = false

-- the comparison never holds, by whether its sides are one tree and by their ranges
abbrev pub never_by : Op → (same : Bool) → Range → Range → Bool
never_by op same left right = if same then not (is_reflexive op) else not (some_meet op left right)

-- the comparison always holds, by the same
abbrev pub always_by : Op → (same : Bool) → Range → Range → Bool
always_by op same left right = if same then is_reflexive op else all_meet op left right

-- the comparison of two trees never holds
abbrev pub is_never : Op → Tree → Tree → Bool
is_never op left right = never_by op (same_tree left right) (range_of left) (range_of right)

-- the comparison of two trees always holds
abbrev pub is_always : Op → Tree → Tree → Bool
is_always op left right = always_by op (same_tree left right) (range_of left) (range_of right)
