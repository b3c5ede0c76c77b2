-- Numbers in place of conditions, by which equal ones are found: the step between the code and docs/DEFINITIONS.md,
-- "Review of a set".
use Rattle.std.specs.Prelude.{ℕ, Bool, ◌&&◌, List, [], ◌∷◌, ◌++◌, not, false}
use Rattle.std.specs.declared.cmp.Ordering.{Ordering}
use Rattle.std.specs.BTreeSet.{BTreeSet, contains}
use Rattle.std.specs.Cmp.Lexicographic.{slice_cmp}
use Rattle.std.specs.Ordering.{nat_cmp}
use Rattle.ra_operand.specs.declared.operand.Operand.{Operand}
use Rattle.ra_operand.specs.declared.operand.Operand.TheVariants.{Cell, Const, Recall}
use Rattle.ra_operand.specs.Same.{number_of_size, number_of_kind, number_of_op}
use Rattle.ra_condition.specs.declared.condition.Condition.{Condition}
use Rattle.ra_notices.specs.Notices.{number_of_flag}

-- the numbers of an operand, those of its variant first
abbrev pub numbers_of : Operand → List ℕ
numbers_of (Cell kind size address) = 0 ∷ number_of_kind kind ∷ number_of_size size ∷ address ∷ []
numbers_of (Const n) = 1 ∷ 0 ∷ 0 ∷ n ∷ []
numbers_of Recall = 2 ∷ 0 ∷ 0 ∷ 0 ∷ []

-- the numbers of a condition
abbrev pub key_of : Condition → List ℕ
key_of c = number_of_flag c.flag ∷ (numbers_of c.left ++ number_of_op c.op ∷ (numbers_of c.right ++ c.target ∷ []))

-- the order of keys
abbrev pub key_cmp : List ℕ → List ℕ → Ordering
key_cmp = slice_cmp nat_cmp
