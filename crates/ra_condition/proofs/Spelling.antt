-- The canonical text of a trigger or value that has its structure spells it.
use Rattle.std.proofs.Common.{◌≡◌, ◌∙◌, inl, inr, ℕ, zero, suc, ◌<◌, Bool, true, false, not, ◌||◌, List, [], ◌∷◌, ◌++◌}
use Rattle.std.proofs.Common.{Option, Some, None, refl, sym, subst, arith, ne_eqb, suc-ne-zero, ◌==◌, if◌then◌else◌}
use Rattle.std.proofs.Common.{append-nil, codes}
use Rattle.std.specs.Fmt.{decimal}
use Rattle.std.specs.List.{flat_map, AllByRecursion}
use Rattle.std.proofs.lemmas.List.Elements.{recursion_from_All}
use Rattle.ra_operand.specs.declared.op.Op.{Op}
use Rattle.ra_operand.specs.declared.op.Op.TheVariants.{Bare, Eq, Ne, Lt, Le, Gt, Ge, Mul, Div, And, Xor, Rem, Add, Sub}
use Rattle.ra_operand.specs.declared.operand.Operand.{Operand}
use Rattle.ra_operand.specs.declared.operand.Operand.TheVariants.{Const}
use Rattle.ra_operand.specs.Canonical.{operand_text}
use Rattle.ra_operand.specs.Fitting.{Fits32}
use Rattle.ra_operand.specs.Operators.{is_arithmetic, is_bare}
use Rattle.ra_operand.proofs.Printing.{operand-spelled}
use Rattle.ra_condition.specs.declared.condition.Condition.{Condition}
use Rattle.ra_condition.specs.declared.flag.Flag.{Flag}
use Rattle.ra_condition.specs.declared.flag.Flag.TheVariants.{Plain, PauseIf, ResetIf, AddSource, SubSource, AddHits}
use Rattle.ra_condition.specs.declared.flag.Flag.TheVariants.{SubHits, AndNext, OrNext, Measured, MeasuredPercent}
use Rattle.ra_condition.specs.declared.flag.Flag.TheVariants.{MeasuredIf, AddAddress, TriggerIf, ResetNextIf, Remember}
use Rattle.ra_condition.specs.declared.part.Term.{Term}
use Rattle.ra_condition.specs.declared.setting.Setting.{Setting}
use Rattle.ra_condition.specs.declared.setting.Setting.TheVariants.{InTrigger, InValue}
use Rattle.ra_condition.specs.declared.tail.Tail.{Tail}
use Rattle.ra_condition.specs.Canonical.{flag_text, op_text, target_text, tail_text, condition_text, joined_text}
use Rattle.ra_condition.specs.Canonical.{group_text, trigger_text, factor_text, term_text, part_text, value_text}
use Rattle.ra_condition.specs.Contents.{TriggerContents, PartContents, Legacy, Grouped}
use Rattle.ra_condition.specs.Flags.{hands_on, is_measured}
use Rattle.ra_condition.specs.Grammar.{flags, comparison, operators, target, bare, compared, computed, stands_bare}
use Rattle.ra_condition.specs.Grammar.{tail_of, unflagged, flagged, condition, group, trigger}
use Rattle.ra_condition.specs.Spelled.{takes_op, IsCondition, IsTriggerGroup, IsTrigger, IsValueGroup, FitsFactor}
use Rattle.ra_condition.specs.Spelled.{IsTerm, IsPart, IsValue}
use Rattle.ra_condition.specs.Values.{measured_by, measured_conditions, times, term, part, value}
use Rattle.ra_condition.proofs.Structure.{measured-chain}
use Rattle.ra_text.specs.Form.{Spell, One, ◌or◌}
use Rattle.ra_text.specs.Table.{lookup, only, only_letters}
use Rattle.ra_text.proofs.Items.{one-byte, chain-spelled, joined-spelled}
use Rattle.ra_text.proofs.Numerals.{decimal-spelled}
use Rattle.ra_text.proofs.Spelled.{then-spelled, none-spelled, one-spelled}

-- ---- tails

comparison-spelled : (op : Op) → not (is_bare op || is_arithmetic op) ≡ true → comparison (op_text op) op
comparison-spelled Eq e = inl (then-spelled (codes "=") [] tt refl (one-byte 61 refl)
    (then-spelled [] [] tt refl (inr none-spelled) none-spelled))
comparison-spelled Ne e = inr (inl (then-spelled (codes "!") (codes "=") tt refl (one-byte 33 refl)
    (then-spelled (codes "=") [] tt refl (one-byte 61 refl) none-spelled)))
comparison-spelled Lt e =
    inr (inr (inl (then-spelled (codes "<") [] tt refl (one-byte 60 refl) (inr none-spelled))))
comparison-spelled Le e = inr (inr (inl
    (then-spelled (codes "<") (codes "=") tt refl (one-byte 60 refl) (inl (one-spelled 61 refl)))))
comparison-spelled Gt e =
    inr (inr (inr (then-spelled (codes ">") [] tt refl (one-byte 62 refl) (inr none-spelled))))
comparison-spelled Ge e = inr (inr (inr
    (then-spelled (codes ">") (codes "=") tt refl (one-byte 62 refl) (inl (one-spelled 61 refl)))))
comparison-spelled _ e = absurd (cc e)

operator-spelled : (op : Op) → is_arithmetic op ≡ true → One (lookup operators) (op_text op) op
operator-spelled Mul e = one-spelled 42 refl
operator-spelled Div e = one-spelled 47 refl
operator-spelled And e = one-spelled 38 refl
operator-spelled Xor e = one-spelled 94 refl
operator-spelled Rem e = one-spelled 37 refl
operator-spelled Add e = one-spelled 43 refl
operator-spelled Sub e = one-spelled 45 refl
operator-spelled _ e = absurd (cc e)

some-target : (n : ℕ) → target_text (suc n) ≡ codes "." ++ (decimal (suc n) ++ codes ".")
some-target n = let some : (suc n == 0) ≡ false = ne_eqb (suc n) 0 (suc-ne-zero n) in rw some

target-spelled : (n : ℕ) → n < 4294967296 → target (target_text n) n
target-spelled zero small = inr (inr none-spelled)
target-spelled (suc n) small = subst (λ t. target t (suc n)) (sym (some-target n))
    (inl (then-spelled (codes ".") (decimal (suc n) ++ codes ".") tt refl (one-byte 46 refl)
    (then-spelled (decimal (suc n)) (codes ".") (suc n) refl (decimal-spelled (suc n) small)
    (then-spelled (codes ".") [] tt refl (one-byte 46 refl) none-spelled))))

compared-spelled : (op : Op) (right : Operand) (n : ℕ) → not (is_bare op || is_arithmetic op) ≡ true
    → Fits32 right → n < 4294967296 → compared (op_text op ++ (operand_text right ++ target_text n))
    (record { op = op; right = right; target = n })
compared-spelled op right n compares fits small =
    then-spelled (op_text op) (operand_text right ++ target_text n) op refl
    (comparison-spelled op compares) (then-spelled (operand_text right) (target_text n) right refl
    (operand-spelled right fits) (then-spelled (target_text n) [] n
    (sym (append-nil (target_text n))) (target-spelled n small) none-spelled))

computed-spelled : (op : Op) (right : Operand) → is_arithmetic op ≡ true → Fits32 right
    → computed (op_text op ++ (operand_text right ++ target_text 0))
    (record { op = op; right = right; target = 0 })
computed-spelled op right arithmetic fits = then-spelled (op_text op)
    (operand_text right ++ target_text 0) op refl (operator-spelled op arithmetic)
    (then-spelled (operand_text right) [] right refl (operand-spelled right fits)
    (then-spelled [] [] 0 refl (inr (inr none-spelled)) none-spelled))

-- no operator is one operator
bare-only : (op : Op) → is_bare op ≡ true → op ≡ Bare
bare-only Bare e = refl
bare-only _ e = absurd (cc e)

bare-spelled : (hands may : Bool) → takes_op hands may Bare ≡ true → tail_of hands may [] bare
bare-spelled true may takes = inr (inr none-spelled)
bare-spelled false true takes = inr none-spelled
bare-spelled false false takes = absurd (cc takes)

or-second : (b a : Bool) → b ≡ false → (b || a) ≡ true → a ≡ true
or-second true a none some = absurd (cc none)
or-second false a none some = some

not-either : (b a : Bool) → b ≡ false → not a ≡ true → not (b || a) ≡ true
not-either true a none other = absurd (cc none)
not-either false a none other = other

some-spelled : (hands may : Bool) (op : Op) (right : Operand) (n : ℕ) → is_bare op ≡ false
    → takes_op hands may op ≡ true → Fits32 right → n < 4294967296 → (hands ≡ true → n ≡ 0)
    → tail_of hands may (op_text op ++ (operand_text right ++ target_text n))
    (record { op = op; right = right; target = n })
some-spelled true may op right n some takes fits small none =
    inr (inl (subst (λ n. computed (op_text op ++ (operand_text right ++ target_text n))
    (record { op = op; right = right; target = n })) (sym (none refl))
    (computed-spelled op right (or-second (is_bare op) (is_arithmetic op) some takes) fits)))
some-spelled false true op right n some takes fits small none = inl
    (compared-spelled op right n (not-either (is_bare op) (is_arithmetic op) some takes) fits small)
some-spelled false false op right n some takes fits small none = compared-spelled op right n takes fits small

tail-spelled : (hands may : Bool) (op : Op) (right : Operand) (n : ℕ) → takes_op hands may op ≡ true
    → Fits32 right → n < 4294967296 → (is_bare op ≡ true → right ≡ Const 0)
    → (is_bare op ≡ true → n ≡ 0) → (hands ≡ true → n ≡ 0)
    → tail_of hands may (tail_text op right n) (record { op = op; right = right; target = n })
tail-spelled hands may op right n takes fits small bare_right bare_target none = cases (is_bare op) refl where
  value : Tail
  value = record { op = op; right = right; target = n }

  bare-value : is_bare op ≡ true → bare ≡ record { op = op; right = right; target = n }
  bare-value e = let o : op ≡ Bare = bare-only op e in let r : right ≡ Const 0 = bare_right e in
      let t : n ≡ 0 = bare_target e in rw (o, r, t)

  cases : (b : Bool) → is_bare op ≡ b → tail_of hands may (if b then [] else op_text op
      ++ (operand_text right ++ target_text n)) (record { op = op; right = right; target = n })
  cases true e = subst (λ v. tail_of hands may [] v) (bare-value e)
      (bare-spelled hands may (subst (λ o. takes_op hands may o ≡ true) (bare-only op e) takes))
  cases false e = some-spelled hands may op right n e takes fits small none

-- ---- conditions

unflagged-spelled : (setting : Setting) (c : Condition) → IsCondition setting c
    → unflagged setting c.flag (operand_text c.left ++ tail_text c.op c.right c.target) c
unflagged-spelled setting c h = then-spelled (operand_text c.left)
    (tail_text c.op c.right c.target) c.left refl (operand-spelled c.left h.left)
    (then-spelled (tail_text c.op c.right c.target) []
    (record { op = c.op; right = c.right; target = c.target })
    (sym (append-nil (tail_text c.op c.right c.target)))
    (tail-spelled (hands_on c.flag) (stands_bare setting c.flag) c.op c.right c.target h.op h.right
    h.target h.bare_right h.bare_target h.handed_target) none-spelled)

flagged-by : (setting : Setting) (letter : ℕ) (flag : Flag) (rest : List ℕ) (c : Condition)
    → lookup flags letter ≡ Some flag → unflagged setting flag rest c
    → flagged setting (letter ∷ (58 ∷ rest)) c
flagged-by setting letter flag rest c listed h = then-spelled (letter ∷ []) (58 ∷ rest) flag refl
    (one-spelled letter listed) (then-spelled (58 ∷ []) rest tt refl (one-byte 58 refl) h)

flagged-spelled : (setting : Setting) (flag : Flag) (rest : List ℕ) (c : Condition) → (flag ≡ Plain
    → ⊥) → unflagged setting flag rest c → flagged setting (flag_text flag ++ rest) c
flagged-spelled setting Plain rest c some h = absurd (some refl)
flagged-spelled setting PauseIf rest c some h = flagged-by setting 80 PauseIf rest c refl h
flagged-spelled setting ResetIf rest c some h = flagged-by setting 82 ResetIf rest c refl h
flagged-spelled setting AddSource rest c some h = flagged-by setting 65 AddSource rest c refl h
flagged-spelled setting SubSource rest c some h = flagged-by setting 66 SubSource rest c refl h
flagged-spelled setting AddHits rest c some h = flagged-by setting 67 AddHits rest c refl h
flagged-spelled setting SubHits rest c some h = flagged-by setting 68 SubHits rest c refl h
flagged-spelled setting AndNext rest c some h = flagged-by setting 78 AndNext rest c refl h
flagged-spelled setting OrNext rest c some h = flagged-by setting 79 OrNext rest c refl h
flagged-spelled setting Measured rest c some h = flagged-by setting 77 Measured rest c refl h
flagged-spelled setting MeasuredPercent rest c some h = flagged-by setting 71 MeasuredPercent rest c refl h
flagged-spelled setting MeasuredIf rest c some h = flagged-by setting 81 MeasuredIf rest c refl h
flagged-spelled setting AddAddress rest c some h = flagged-by setting 73 AddAddress rest c refl h
flagged-spelled setting TriggerIf rest c some h = flagged-by setting 84 TriggerIf rest c refl h
flagged-spelled setting ResetNextIf rest c some h = flagged-by setting 90 ResetNextIf rest c refl h
flagged-spelled setting Remember rest c some h = flagged-by setting 75 Remember rest c refl h

-- a condition without a flag, or behind one
any-spelled : (setting : Setting) (flag : Flag) (rest : List ℕ) (c : Condition)
    → unflagged setting flag rest c → condition setting (flag_text flag ++ rest) c
any-spelled setting Plain rest c h = inr h
any-spelled setting PauseIf rest c h = inl (flagged-by setting 80 PauseIf rest c refl h)
any-spelled setting ResetIf rest c h = inl (flagged-by setting 82 ResetIf rest c refl h)
any-spelled setting AddSource rest c h = inl (flagged-by setting 65 AddSource rest c refl h)
any-spelled setting SubSource rest c h = inl (flagged-by setting 66 SubSource rest c refl h)
any-spelled setting AddHits rest c h = inl (flagged-by setting 67 AddHits rest c refl h)
any-spelled setting SubHits rest c h = inl (flagged-by setting 68 SubHits rest c refl h)
any-spelled setting AndNext rest c h = inl (flagged-by setting 78 AndNext rest c refl h)
any-spelled setting OrNext rest c h = inl (flagged-by setting 79 OrNext rest c refl h)
any-spelled setting Measured rest c h = inl (flagged-by setting 77 Measured rest c refl h)
any-spelled setting MeasuredPercent rest c h = inl (flagged-by setting 71 MeasuredPercent rest c refl h)
any-spelled setting MeasuredIf rest c h = inl (flagged-by setting 81 MeasuredIf rest c refl h)
any-spelled setting AddAddress rest c h = inl (flagged-by setting 73 AddAddress rest c refl h)
any-spelled setting TriggerIf rest c h = inl (flagged-by setting 84 TriggerIf rest c refl h)
any-spelled setting ResetNextIf rest c h = inl (flagged-by setting 90 ResetNextIf rest c refl h)
any-spelled setting Remember rest c h = inl (flagged-by setting 75 Remember rest c refl h)

pub condition-spelled : (setting : Setting) (c : Condition) → IsCondition setting c
    → condition setting (condition_text c) c
condition-spelled setting c h = any-spelled setting c.flag
    (operand_text c.left ++ tail_text c.op c.right c.target) c (unflagged-spelled setting c h)

-- ---- groups and triggers

each-by : {X : Type 0} (P Q : X → Type 0) → ((x : X) → P x → Q x) → (xs : List X)
    → AllByRecursion P xs → AllByRecursion Q xs
each-by P Q into [] each = tt
each-by P Q into (x ∷ xs) each = (into x each.0, each-by P Q into xs each.1)

group-spelled : (cs : List Condition) → IsTriggerGroup cs → group (group_text cs) cs
group-spelled [] h = inr none-spelled
group-spelled (c ∷ cs) h = let each = recursion_from_All (IsCondition InTrigger) (c ∷ cs) h in
    inl (joined-spelled (only (95 ∷ [])) (condition InTrigger) 95 tt condition_text refl c cs
    (condition-spelled InTrigger c each.0) (each-by (IsCondition InTrigger)
    (λ c. condition InTrigger (condition_text c) c) (condition-spelled InTrigger) cs each.1))

-- the canonical text of a trigger spells it
pub trigger-spelled : (t : TriggerContents) → IsTrigger t → trigger (trigger_text t) t
trigger-spelled t h = then-spelled (trigger_text t) [] (t.core ∷ t.alts)
    (sym (append-nil (trigger_text t))) (joined-spelled
    (only_letters (83 ∷ [])) group 83 tt group_text refl t.core t.alts (group-spelled t.core h.core)
    (each-by IsTriggerGroup (λ g. group (group_text g) g) group-spelled t.alts
    (recursion_from_All IsTriggerGroup t.alts h.alts))) none-spelled

-- ---- values

conditions-spelled : (cs : List Condition) → IsValueGroup cs → measured_conditions (group_text cs) cs
conditions-spelled [] h = absurd (h.flagged tt)
conditions-spelled (c ∷ cs) h =
    let each = recursion_from_All (IsCondition InValue) (c ∷ cs) h.conditions in
    then-spelled (condition_text c) (flat_map (λ y. 95 ∷ condition_text y) cs) c refl
    (flagged-spelled InValue c.flag (operand_text c.left ++ tail_text c.op c.right c.target) c
    h.flagged (unflagged-spelled InValue c each.0))
    (then-spelled (flat_map (λ y. 95 ∷ condition_text y) cs) [] cs
    (sym (append-nil (flat_map (λ y. 95 ∷ condition_text y) cs)))
    (chain-spelled (λ so_far. only (95 ∷ [])) (λ so_far tag. condition InValue) measured_by
    (λ so_far. so_far) 95 tt condition_text (λ so_far. refl) (is_measured c.flag) cs
    (each-by (IsCondition InValue) (λ c. (so_far : Bool)
    → condition InValue (condition_text c) c) (λ c h so_far. condition-spelled InValue c h) cs
    each.1) (measured-chain (is_measured c.flag) cs ∙ h.measured)) none-spelled)

factor-spelled : (f : Option Operand) → FitsFactor f → (times or Spell None) (factor_text f) f
factor-spelled None h = inr none-spelled
factor-spelled (Some o) h = inl (then-spelled (codes "*") (operand_text o) tt refl
    (one-byte 42 refl) (then-spelled (operand_text o) [] o (sym (append-nil (operand_text o)))
    (operand-spelled o h) none-spelled))

term-spelled : (t : Term) → IsTerm t → term (term_text t) t
term-spelled t h = then-spelled (operand_text t.operand) (factor_text t.factor) t.operand refl
    (operand-spelled t.operand h.operand) (then-spelled (factor_text t.factor) [] t.factor
    (sym (append-nil (factor_text t.factor))) (factor-spelled t.factor h.factor) none-spelled)

part-spelled : (p : PartContents) → IsPart p → part (part_text p) p
part-spelled (Legacy []) h = absurd (omega (arith, h.0))
part-spelled (Legacy (t ∷ ts)) h = let each = recursion_from_All IsTerm (t ∷ ts) h.1 in
    inr (then-spelled (joined_text 95 term_text (t ∷ ts)) [] (t ∷ ts)
    (sym (append-nil (joined_text 95 term_text (t ∷ ts))))
    (joined-spelled (only (95 ∷ [])) term 95 tt term_text refl t ts (term-spelled t each.0)
    (each-by IsTerm (λ t. term (term_text t) t) term-spelled ts each.1)) none-spelled)
part-spelled (Grouped cs) h = inl (then-spelled (group_text cs) [] cs
    (sym (append-nil (group_text cs))) (conditions-spelled cs h) none-spelled)

-- the canonical text of a value spells it
pub value-spelled : (v : List PartContents) → IsValue v → value (value_text v) v
value-spelled [] h = absurd (omega (arith, h.some))
value-spelled (p ∷ ps) h = let each = recursion_from_All IsPart (p ∷ ps) h.each in
    joined-spelled (only (36 ∷ [])) part 36 tt part_text refl p ps (part-spelled p each.0)
    (each-by IsPart (λ p. part (part_text p) p) part-spelled ps each.1)
