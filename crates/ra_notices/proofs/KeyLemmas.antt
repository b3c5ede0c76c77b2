-- Conditions are equal exactly where their numbers are.
use Rattle.std.proofs.Common.{◌≡◌, ◌∙◌, ℕ, ◌==◌, Bool, true, false, cond, ◌&&◌, ◌||◌, List, [], ◌∷◌, ◌++◌, length, map}
use Rattle.std.proofs.Common.{suc, ◌+◌, refl, sym, ap, bytes_eq, arith}
use Rattle.std.specs.List.{list_any, range_with_len}
use Rattle.std.specs.BTreeSet.{BTreeSet, contains}
use Rattle.std.proofs.lemmas.List.Folds.{list_any-append}
use Rattle.std.proofs.lemmas.List.FromFn.{map-range_with_len_more}
use Rattle.ra_operand.specs.declared.operand.Operand.{Operand}
use Rattle.ra_operand.specs.declared.operand.Operand.TheVariants.{Cell, Const, Recall}
use Rattle.ra_operand.specs.Same.{same_size, same_kind, same_op}
use Rattle.ra_condition.specs.declared.condition.Condition.{Condition}
use Rattle.ra_condition.specs.Contents.{condition_at, flag_at}
use Rattle.ra_condition.specs.Flags.{combines}
use Rattle.ra_notices.specs.Keys.{numbers_of, key_of, key_cmp}
use Rattle.ra_notices.specs.Notices.{number_of_flag, same_operand, same_condition, is_chained, is_lone, is_twice}
use Rattle.ra_notices.specs.Noticing.{is_lone_after}
use Rattle.ra_notices.proofs.PassLemmas.{next_place}

-- ---- numbers

two : (a b : Bool) → (a && (b && true)) ≡ (a && b)
two true true = refl
two true false = refl
two false b = refl

three : (a b c r : Bool) → (a && (b && (c && r))) ≡ (((a && b) && c) && r)
three true true c r = refl
three true false c r = refl
three false b c r = refl

-- the numbers of operands before others
same_numbers : (a b : Operand) (xs ys : List ℕ) → bytes_eq (numbers_of a ++ xs) (numbers_of b ++ ys)
    ≡ (same_operand a b && bytes_eq xs ys)
same_numbers (Cell kind size address) (Cell kind' size' address') xs ys =
    three (same_kind kind kind') (same_size size size') (address == address') (bytes_eq xs ys)
same_numbers (Cell kind size address) (Const n) xs ys = refl
same_numbers (Cell kind size address) Recall xs ys = refl
same_numbers (Const n) (Cell kind size address) xs ys = refl
same_numbers (Const n) (Const n') xs ys = refl
same_numbers (Const n) Recall xs ys = refl
same_numbers Recall (Cell kind size address) xs ys = refl
same_numbers Recall (Const n) xs ys = refl
same_numbers Recall Recall xs ys = refl

all_five : (f l o r t : Bool) → (f && (l && (o && (r && (t && true))))) ≡ ((((f && l) && o) && r) && t)
all_five true true true true true = refl
all_five true true true true false = refl
all_five true true true false t = refl
all_five true true false r t = refl
all_five true false o r t = refl
all_five false l o r t = refl

pub same_keys : (c d : Condition) → bytes_eq (key_of c) (key_of d) ≡ same_condition c d
same_keys c d =
    let flag = number_of_flag c.flag == number_of_flag d.flag in
    let left = same_operand c.left d.left in
    let op = same_op c.op d.op in
    let target = c.target == d.target in
    ap (λ b. flag && b) (same_numbers c.left d.left _ _
    ∙ ap (λ b. left && (op && b)) (same_numbers c.right d.right (c.target ∷ []) (d.target ∷ [])))
    ∙ all_five flag left op (same_operand c.right d.right) target

-- ---- what was noted

pub or_cond : (b x : Bool) → cond b true x ≡ (b || x)
or_cond true x = refl
or_cond false x = refl

or_false : (b : Bool) → (b || false) ≡ b
or_false true = refl
or_false false = refl

or_swap : (a b : Bool) → (a || b) ≡ (b || a)
or_swap true true = refl
or_swap true false = refl
or_swap false true = refl
or_swap false false = refl

module _ (cs : List Condition) where
  -- some condition before a place that is a chain by itself has these numbers
  abbrev pub has_key : ℕ → List ℕ → Bool
  has_key place key = list_any (λ i. is_lone cs i && bytes_eq (key_of (condition_at cs i)) key) (range_with_len 0 place)

  -- the conditions before a place are noted
  pub record HasNoted (place : ℕ) (twice : List Bool) (seen : BTreeSet (List ℕ)) (chained : Bool) : Type 0 where
    pub told : twice ≡ map (is_twice cs) (range_with_len 0 place)
    pub noted : (key : List ℕ) → contains key_cmp seen key ≡ has_key place key
    pub before : chained ≡ is_chained cs place

  same_any : (p q : ℕ → Bool) → ((i : ℕ) → p i ≡ q i) → (js : List ℕ) → list_any p js ≡ list_any q js
  same_any p q each [] = refl
  same_any p q each (j ∷ js) = (λ i. each j i || same_any p q each js i)

  pub noted_more : (place : ℕ) (c : Condition) (twice twice' : List Bool)
      (seen seen' : BTreeSet (List ℕ)) (chained chained' lone again : Bool)
      → c ≡ condition_at cs place → HasNoted place twice seen chained → lone ≡ is_lone_after c chained
      → again ≡ (lone && contains key_cmp seen (key_of c))
      → ((key : List ℕ) → contains key_cmp seen' key ≡ (lone && bytes_eq (key_of c) key || contains key_cmp seen key))
      → twice' ≡ twice ++ again ∷ [] → chained' ≡ combines c.flag → HasNoted (place + 1) twice' seen' chained'
  noted_more place c twice twice' seen seen' chained chained' lone again is_c h is_lone' is_again
      is_noted is_told is_chained' = record {
        told = is_told ∙ (λ i. h.told i ++ again_is i ∷ [])
            ∙ sym (map-range_with_len_more (is_twice cs) 0 place place (omega arith));
        noted = λ key. is_noted key ∙ (λ i. (lone_is i && bytes_eq (key_of (is_c i)) key) || h.noted key i)
            ∙ or_swap (is_lone cs place && bytes_eq (key_of (condition_at cs place)) key) (has_key place key)
            ∙ ap (λ b. has_key place key || b)
            (sym (or_false (is_lone cs place && bytes_eq (key_of (condition_at cs place)) key)))
            ∙ sym (ap (list_any (λ i. is_lone cs i && bytes_eq (key_of (condition_at cs i)) key)) (next_place place)
            ∙ list_any-append (λ i. is_lone cs i && bytes_eq (key_of (condition_at cs i)) key)
            (range_with_len 0 place) (place ∷ []));
        before = is_chained' ∙ ap (λ d. combines d.flag) is_c
            ∙ (let e : suc place ≡ place + 1 = omega arith in ap (is_chained cs) e);
      }
    where
      lone_is : lone ≡ is_lone cs place
      lone_is = is_lone' ∙ (λ i. is_lone_after (is_c i) (h.before i))

      again_is : again ≡ is_twice cs place
      again_is =
          is_again ∙ (λ i. lone_is i && h.noted (key_of (is_c i)) i)
          ∙ ap (λ b. is_lone cs place && b) (same_any (λ i. is_lone cs i
          && bytes_eq (key_of (condition_at cs i)) (key_of (condition_at cs place)))
          (λ i. is_lone cs i && same_condition (condition_at cs i) (condition_at cs place))
          (λ i. ap (λ b. is_lone cs i && b) (same_keys (condition_at cs i) (condition_at cs place)))
          (range_with_len 0 place))
