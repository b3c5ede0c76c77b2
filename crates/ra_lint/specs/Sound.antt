-- Numbers in ranges, and trees whose constants fit 32 bits: docs/DEFINITIONS.md, "Ranges".
use Rattle.std.specs.Prelude.{◌≡◌, ℕ, ◌<◌, ◌≤◌, ◌^◌, true}
use Rattle.ra_operand.specs.declared.op.Op.{Op}
use Rattle.ra_operand.specs.Operators.{compared}
use Rattle.ra_indirect.specs.Trees.{Tree, constant, join, view}
use Rattle.ra_lint.specs.declared.range.Range.{Range}

-- the number lies in the range
pub record IsIn (n : ℕ) (r : Range) : Type 0 where
  pub least : r.least ≤ n
  pub greatest : n ≤ r.greatest

-- some two numbers of the ranges meet the comparison
pub record SomeMeet (op : Op) (r s : Range) : Type 0 where
  pub left : ℕ
  pub right : ℕ
  pub left_in : IsIn left r
  pub right_in : IsIn right s
  pub meets : compared op left right ≡ true

-- all two numbers of the ranges meet it
abbrev pub AllMeet : Op → Range → Range → Type 0
AllMeet op r s = (x y : ℕ) → IsIn x r → IsIn y s → compared op x y ≡ true

-- each constant of the tree is a number of 32 bits
abbrev pub HasSmallConstants : Tree → Type 0
HasSmallConstants (constant n) = n < 2 ^ 32
HasSmallConstants (join op left right) = HasSmallConstants left × HasSmallConstants right
HasSmallConstants (view kind size pointer address) = Unit {0}
