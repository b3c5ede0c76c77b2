-- What texts spell hands on values that compute.
use Rattle.std.proofs.Common.{◌≡◌, Bool, true, false, ◌||◌, List, refl, subst, ◌⊎◌, inl, inr, IsTrue, All}
use Rattle.std.proofs.lemmas.List.Elements.{All-get_or}
use Rattle.ra_operand.specs.declared.op.Op.{Op}
use Rattle.ra_operand.specs.Operators.{is_arithmetic, is_bare}
use Rattle.ra_condition.specs.declared.condition.Condition.{Condition}
use Rattle.ra_condition.specs.declared.setting.Setting.{Setting}
use Rattle.ra_condition.specs.Contents.{no_condition}
use Rattle.ra_condition.specs.Flags.{hands_on}
use Rattle.ra_condition.specs.Grammar.{stands_bare}
use Rattle.ra_condition.specs.Spelled.{takes_op, IsCondition}
use Rattle.ra_chain.specs.Sides.{JoinsValues}
use Rattle.ra_chain.specs.Elaborates.{AllJoin}

one_of : (a b : Bool) → (a || b) ≡ true → IsTrue a ⊎ IsTrue b
one_of true _ _ = inl refl
one_of false _ is = inr is

taken : (hands may : Bool) (op : Op) → takes_op hands may op ≡ true → IsTrue hands
    → IsTrue (is_bare op) ⊎ IsTrue (is_arithmetic op)
taken hands may op takes is = one_of (is_bare op) (is_arithmetic op) (subst (λ h. takes_op h may op ≡ true) is takes)

pub joins_condition : (setting : Setting) (c : Condition) → IsCondition setting c → JoinsValues c
joins_condition setting c spelled = taken (hands_on c.flag) (stands_bare setting c.flag) c.op spelled.op

-- what `elaborate` asks of a group, from what a text spells
pub all_join : (setting : Setting) (cs : List Condition) → All (IsCondition setting) cs → AllJoin cs
all_join setting cs spelled j inside =
    joins_condition setting _ (All-get_or (IsCondition setting) cs j no_condition inside spelled)
