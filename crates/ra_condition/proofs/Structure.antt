-- The conditions, triggers and values that texts spell have their structure.
use Rattle.std.proofs.Common.{◌≡◌, ◌∙◌, ◌^◌, inl, inr, ℕ, ◌<◌, Bool, true, false, not, ◌||◌, List, [], ◌∷◌, length}
use Rattle.std.proofs.Common.{Option, Some, None, refl, sym, ap, subst, arith, lit<, All}
use Rattle.std.specs.List.{AllByRecursion}
use Rattle.std.proofs.lemmas.List.Elements.{All-from_recursion, All-nil}
use Rattle.ra_operand.specs.declared.op.Op.{Op}
use Rattle.ra_operand.specs.declared.op.Op.TheVariants.{Bare, Lt, Le, Gt, Ge}
use Rattle.ra_operand.specs.declared.operand.Operand.{Operand}
use Rattle.ra_operand.specs.declared.operand.Operand.TheVariants.{Const}
use Rattle.ra_operand.specs.Fitting.{Fits32}
use Rattle.ra_operand.specs.Operators.{is_arithmetic, is_bare}
use Rattle.ra_operand.proofs.Printing.{operand-fits}
use Rattle.ra_condition.specs.declared.condition.Condition.{Condition}
use Rattle.ra_condition.specs.declared.flag.Flag.{Flag}
use Rattle.ra_condition.specs.declared.flag.Flag.TheVariants.{Plain}
use Rattle.ra_condition.specs.declared.part.Term.{Term}
use Rattle.ra_condition.specs.declared.setting.Setting.{Setting}
use Rattle.ra_condition.specs.declared.setting.Setting.TheVariants.{InTrigger, InValue}
use Rattle.ra_condition.specs.declared.tail.Tail.{Tail}
use Rattle.ra_condition.specs.Contents.{TriggerContents, PartContents}
use Rattle.ra_condition.specs.Flags.{hands_on, is_measured}
use Rattle.ra_condition.specs.Grammar.{flags, comparison, operators, target, bare, compared, computed, stands_bare}
use Rattle.ra_condition.specs.Grammar.{tail_of, unflagged, flagged, condition, group, trigger, trigger_of}
use Rattle.ra_condition.specs.Spelled.{takes_op, IsCondition, IsTriggerGroup, IsTrigger, some_measured, IsValueGroup}
use Rattle.ra_condition.specs.Spelled.{FitsFactor, IsTerm, IsPart, IsValue}
use Rattle.ra_condition.specs.Values.{measured_by, measured_conditions, times, term, part, value}
use Rattle.ra_text.specs.Form.{Spell, One, ◌or◌}
use Rattle.ra_text.specs.Table.{lookup, only, only_letters, bytes_for}
use Rattle.ra_text.proofs.Items.{ends_in, chain-each, chain-done, joined-each, joined-some}
use Rattle.ra_text.proofs.Numerals.{decimal-fits}
use Rattle.ra_text.proofs.Tables.{each-listed, value-passes}

-- ---- tails

ordered-compares : (with_equal alone : Op) → not (is_bare with_equal || is_arithmetic with_equal)
    ≡ true → not (is_bare alone || is_arithmetic alone) ≡ true → (t : List ℕ) (op : Op)
    → (One (lookup (bytes_for (61 ∷ []) with_equal)) or Spell alone) t op
    → not (is_bare op || is_arithmetic op) ≡ true
ordered-compares with_equal alone a b t op (inl h) = each-listed (λ op. not (is_bare op
    || is_arithmetic op) ≡ true) (bytes_for (61 ∷ []) with_equal) (a, tt) h.symbol op h.listed
ordered-compares with_equal alone a b t op (inr h) =
    subst (λ op. not (is_bare op || is_arithmetic op) ≡ true) (sym h.is) b

comparison-compares : (t : List ℕ) (op : Op) → comparison t op → not (is_bare op || is_arithmetic op) ≡ true
comparison-compares t op (inl h) =
    subst (λ op. not (is_bare op || is_arithmetic op) ≡ true) (sym h.of_next.of_next.is) refl
comparison-compares t op (inr (inl h)) =
    subst (λ op. not (is_bare op || is_arithmetic op) ≡ true) (sym h.of_next.of_next.is) refl
comparison-compares t op (inr (inr (inl h))) = ordered-compares Le Lt refl refl h.behind op h.of_next
comparison-compares t op (inr (inr (inr h))) = ordered-compares Ge Gt refl refl h.behind op h.of_next

target-fits : (t : List ℕ) (n : ℕ) → target t n → n < 2 ^ 32
target-fits t n (inl h) = subst (λ n. n < 2 ^ 32) (sym h.of_next.of_next.of_next.is)
    (decimal-fits h.of_next.front h.of_next.v h.of_next.of_first)
target-fits t n (inr (inl h)) = subst (λ n. n < 2 ^ 32) (sym h.of_next.of_next.of_next.is)
    (decimal-fits h.of_next.front h.of_next.v h.of_next.of_first)
target-fits t n (inr (inr h)) = subst (λ n. n < 2 ^ 32) (sym h.is) (lit< tt)

-- what a condition keeps of its tail
record IsTail (hands may : Bool) (tail : Tail) : Type 0 where
  op : takes_op hands may tail.op ≡ true
  right : Fits32 tail.right
  target : tail.target < 2 ^ 32
  bare_right : is_bare tail.op ≡ true → tail.right ≡ Const 0
  bare_target : is_bare tail.op ≡ true → tail.target ≡ 0
  handed_target : hands ≡ true → tail.target ≡ 0

bare-tail : (hands may : Bool) → takes_op hands may Bare ≡ true → IsTail hands may bare
bare-tail hands may takes =
    record {
      op = takes;
      right = lit< tt;
      target = lit< tt;
      bare_right = λ e. refl;
      bare_target = λ e. refl;
      handed_target = λ e. refl;
    }

compares-no_bare : (b a : Bool) → not (b || a) ≡ true → b ≡ true → ⊥
compares-no_bare true a e is = absurd (cc e)
compares-no_bare false a e is = absurd (cc is)

compares-no_arithmetic : (b a : Bool) → not (b || a) ≡ true → not a ≡ true
compares-no_arithmetic true a e = absurd (cc e)
compares-no_arithmetic false a e = e

takes-comparison : (may : Bool) (op : Op) → not (is_bare op || is_arithmetic op) ≡ true → takes_op false may op ≡ true
takes-comparison true op e = compares-no_arithmetic (is_bare op) (is_arithmetic op) e
takes-comparison false op e = e

compared-tail : (may : Bool) (t : List ℕ) (tail : Tail) → compared t tail → IsTail false may tail
compared-tail may t tail h = subst (λ x. IsTail false may x) (sym h.of_next.of_next.of_next.is) (record {
  op = takes-comparison may h.v (comparison-compares h.front h.v h.of_first);
  right = operand-fits h.of_next.front h.of_next.v h.of_next.of_first;
  target = target-fits h.of_next.of_next.front h.of_next.of_next.v h.of_next.of_next.of_first;
  bare_right = λ e. absurd (compares-no_bare (is_bare h.v) (is_arithmetic h.v)
      (comparison-compares h.front h.v h.of_first) e);
  bare_target = λ e. absurd (compares-no_bare (is_bare h.v) (is_arithmetic h.v)
      (comparison-compares h.front h.v h.of_first) e);
  handed_target = λ e. absurd (cc e);
})

arithmetic-only : (c : ℕ) (op : Op) → lookup operators c ≡ Some op → (is_arithmetic op ≡ true) × (is_bare op ≡ false)
arithmetic-only = each-listed (λ op. (is_arithmetic op ≡ true) × (is_bare op ≡ false)) operators
    ((refl, refl), ((refl, refl), ((refl, refl), ((refl, refl), ((refl, refl), ((refl, refl), ((refl, refl), tt)))))))

takes-arithmetic : (b a : Bool) → a ≡ true → (b || a) ≡ true
takes-arithmetic true a e = refl
takes-arithmetic false a e = e

computed-tail : (may : Bool) (t : List ℕ) (tail : Tail) → computed t tail → IsTail true may tail
computed-tail may t tail h = let only = arithmetic-only h.of_first.symbol h.v h.of_first.listed in
    subst (λ x. IsTail true may x) (sym h.of_next.of_next.of_next.is) (record {
      op = takes-arithmetic (is_bare h.v) (is_arithmetic h.v) only.0;
      right = operand-fits h.of_next.front h.of_next.v h.of_next.of_first;
      target = lit< tt;
      bare_right = λ e. absurd (let no_bare : is_bare h.v ≡ false = only.1 in cc (e, no_bare));
      bare_target = λ e. refl;
      handed_target = λ e. refl;
    })

tail-structure : (hands may : Bool) (t : List ℕ) (tail : Tail) → tail_of hands may t tail → IsTail hands may tail
tail-structure true may t tail (inl h) = subst (λ x. IsTail true may x) (sym h.of_next.is) (bare-tail true may refl)
tail-structure true may t tail (inr (inl h)) = computed-tail may t tail h
tail-structure true may t tail (inr (inr h)) = subst (λ x. IsTail true may x) (sym h.is) (bare-tail true may refl)
tail-structure false true t tail (inl h) = compared-tail true t tail h
tail-structure false true t tail (inr h) = subst (λ x. IsTail false true x) (sym h.is) (bare-tail false true refl)
tail-structure false false t tail h = compared-tail false t tail h

-- ---- conditions

unflagged-structure : (setting : Setting) (flag : Flag) (t : List ℕ) (c : Condition)
    → unflagged setting flag t c → IsCondition setting c × (c.flag ≡ flag)
unflagged-structure setting flag t c h =
    let tail = tail-structure (hands_on flag)
    (stands_bare setting flag) h.of_next.front h.of_next.v h.of_next.of_first in
    subst (λ x. IsCondition setting x × (x.flag ≡ flag)) (sym h.of_next.of_next.is) (
      record {
        op = tail.op;
        left = operand-fits h.front h.v h.of_first;
        right = tail.right;
        target = tail.target;
        bare_right = tail.bare_right;
        bare_target = tail.bare_target;
        handed_target = tail.handed_target;
      },
      refl,
    )

has_flag : Flag → Bool
has_flag Plain = false
has_flag _ = true

no-plain : (c : ℕ) (flag : Flag) → lookup flags c ≡ Some flag → flag ≡ Plain → ⊥
unfolding has_flag
no-plain c flag listed plain = let some : has_flag flag ≡ true = value-passes has_flag flags refl c
    flag listed in let none : has_flag flag ≡ false = ap has_flag plain in cc (some, none)

flagged-structure : (setting : Setting) (t : List ℕ) (c : Condition) → flagged setting t c
    → IsCondition setting c × (c.flag ≡ Plain → ⊥)
flagged-structure setting t c h = let u = unflagged-structure setting h.v h.of_next.behind c
    h.of_next.of_next in
    (u.0, λ plain. no-plain h.of_first.symbol h.v h.of_first.listed (sym u.1 ∙ plain))

pub condition-structure : (setting : Setting) (t : List ℕ) (c : Condition) → condition setting t c
    → IsCondition setting c
condition-structure setting t c (inl h) = (flagged-structure setting t c h).0
condition-structure setting t c (inr h) = (unflagged-structure setting Plain t c h).0

-- ---- groups and triggers

group-structure : (t : List ℕ) (cs : List Condition) → group t cs → IsTriggerGroup cs
group-structure t cs (inl h) = All-from_recursion (IsCondition InTrigger) cs (joined-each (only
    (95 ∷ [])) (condition InTrigger) (IsCondition InTrigger) (condition-structure InTrigger) t cs h)
group-structure t cs (inr h) = subst (λ x. All (IsCondition InTrigger) x) (sym h.is) (All-nil (IsCondition InTrigger))

trigger-of-groups : (gs : List (List Condition)) → 0 < length gs → AllByRecursion IsTriggerGroup gs
    → IsTrigger (trigger_of gs)
trigger-of-groups [] some each = absurd (omega arith)
trigger-of-groups (core ∷ alts) some each =
    record { core = each.0; alts = All-from_recursion IsTriggerGroup alts each.1 }

-- every trigger that some text spells has this structure
pub trigger-structure : (t : List ℕ) (v : TriggerContents) → trigger t v → IsTrigger v
trigger-structure t v h = subst IsTrigger (sym h.of_next.is)
    (trigger-of-groups h.v (joined-some (only_letters (83 ∷ [])) group h.front h.v h.of_first)
    (joined-each
    (only_letters (83 ∷ [])) group IsTriggerGroup group-structure h.front h.v h.of_first))

-- ---- values

pub measured-chain : (so_far : Bool) (cs : List Condition) → ends_in measured_by so_far cs
    ≡ (so_far || some_measured cs)
measured-chain true [] = refl
measured-chain false [] = refl
measured-chain true (c ∷ cs) = measured-chain true cs
measured-chain false (c ∷ cs) = measured-chain (is_measured c.flag) cs

conditions-structure : (t : List ℕ) (cs : List Condition) → measured_conditions t cs → IsValueGroup cs
conditions-structure t cs h =
    let first = flagged-structure InValue h.front h.v h.of_first in
    let others = h.of_next in
    subst IsValueGroup (sym others.of_next.is) (record {
      conditions = All-from_recursion (IsCondition InValue) (h.v ∷ others.v) (
        first.0,
        chain-each (λ so_far. only (95 ∷ [])) (λ so_far tag. condition InValue) measured_by
            (λ so_far. so_far) (IsCondition InValue) (λ so_far tag. condition-structure InValue)
            (is_measured h.v.flag) others.front others.v others.of_first,
      );
      flagged = first.1;
      measured = sym (measured-chain (is_measured h.v.flag) others.v)
          ∙ chain-done (λ so_far. only (95 ∷ [])) (λ so_far tag. condition InValue) measured_by
          (λ so_far. so_far) (is_measured h.v.flag) others.front others.v others.of_first;
    })

term-structure : (t : List ℕ) (v : Term) → term t v → IsTerm v
term-structure t v h = subst IsTerm (sym h.of_next.of_next.is)
    (record {
      operand = operand-fits h.front h.v h.of_first;
      factor = factor-fits h.of_next.front h.of_next.v h.of_next.of_first;
    }) where
      factor-fits : (t : List ℕ) (f : Option Operand) → (times or Spell None) t f → FitsFactor f
      factor-fits t f (inl h) = subst FitsFactor (sym h.of_next.of_next.is)
          (operand-fits h.of_next.front h.of_next.v h.of_next.of_first)
      factor-fits t f (inr h) = subst FitsFactor (sym h.is) tt

part-structure : (t : List ℕ) (v : PartContents) → part t v → IsPart v
part-structure t v (inl h) = subst IsPart (sym h.of_next.is) (conditions-structure h.front h.v h.of_first)
part-structure t v (inr h) = subst IsPart (sym h.of_next.is) (
  joined-some (only (95 ∷ [])) term h.front h.v h.of_first,
  All-from_recursion IsTerm h.v (joined-each (only (95 ∷ [])) term IsTerm term-structure h.front h.v h.of_first),
)

-- every value that some text spells has this structure
pub value-structure : (t : List ℕ) (v : List PartContents) → value t v → IsValue v
value-structure t v h =
    record {
      some = joined-some (only (36 ∷ [])) part t v h;
      each = All-from_recursion IsPart v (joined-each (only (36 ∷ [])) part IsPart part-structure t v h);
    }
