-- The outcome of a group, from its conditions and back.
use Rattle.std.proofs.Common.{◌≡◌, ℕ, zero, suc, ◌+◌, ◌<◌, ◌≤◌, max, Bool, true, false, not, ◌&&◌, ◌||◌, cond, ◌⊎◌, ◌↔◌}
use Rattle.std.proofs.Common.{Option, None, Some, length, refl, sym, ap, ◌∙◌, inl, inr, arith}
use Rattle.std.specs.List.{list_any, list_all, range_with_len}
use Rattle.std.proofs.lemmas.Bool.{and_parts, and_from, or_cases, or_left, or_right, true≢false, false≢true, not-true}
use Rattle.std.proofs.lemmas.Bool.{not_from_false, cases_eq, cases_lt}
use Rattle.ra_condition.specs.declared.flag.Flag.{Flag}
use Rattle.ra_condition.specs.Flags.{is_pause, is_reset, is_measured, is_measured_if, is_wanted, is_required}
use Rattle.ra_condition.specs.Contents.{flag_at}
use Rattle.ra_condition.specs.Chains.{places}
use Rattle.ra_group.specs.declared.form.Form.{Form}
use Rattle.ra_group.specs.Equations.{Frame, settled_at}
use Rattle.ra_group.specs.Outcome.{some_valid, all_valid, larger, greatest, option_if, outcome_of}
use Rattle.ra_group.specs.OutcomeLaws.{SomeValid, EachValid, NoneMeasured, IsGreatestNumber, number_at}

-- a number of a range passes
pub record Passes (p : ℕ → Bool) (a n : ℕ) : Type 0 where
  pub at : ℕ
  pub from : a ≤ at
  pub below : at < a + n
  pub passes : p at ≡ true

any_from : (p : ℕ → Bool) (a n : ℕ) → list_any p (range_with_len a n) ≡ true → Passes p a n
any_from p a zero h = absurd (false≢true h)
any_from p a (suc n) h = elim (or_cases (p a) (list_any p (range_with_len (a + 1) n)) h) [
  | inl here ↦ record { at = a; from = omega arith; below = omega arith; passes = here }
  | inr later ↦ let t = any_from p (a + 1) n later in record
      { at = t.at; from = omega (arith, t.from); below = omega (arith, t.below); passes = t.passes }
]

any_to : (p : ℕ → Bool) (a n j : ℕ) → a ≤ j → j < a + n → p j ≡ true → list_any p (range_with_len a n) ≡ true
any_to p a zero j g l h = absurd (omega arith)
any_to p a (suc n) j g l h = elim (cases_eq a j) [
  | inl here ↦ or_left (p a) (list_any p (range_with_len (a + 1) n)) (ap p here ∙ h)
  | inr other ↦ or_right (p a) (list_any p (range_with_len (a + 1) n))
      (any_to p (a + 1) n j (omega arith) (omega arith) h)
]

all_to : (p : ℕ → Bool) (a n : ℕ) → ((j : ℕ) → a ≤ j → j < a + n → p j ≡ true) → list_all p (range_with_len a n) ≡ true
all_to p a zero h = refl
all_to p a (suc n) h = and_from (p a) (list_all p (range_with_len (a + 1) n)) (h a (omega arith)
    (omega arith)) (all_to p (a + 1) n (λ j g l. h j (omega arith) (omega arith)))

all_from : (p : ℕ → Bool) (a n : ℕ) → list_all p (range_with_len a n) ≡ true → (j : ℕ) → a ≤ j → j < a + n → p j ≡ true
all_from p a zero h j g l = absurd (omega arith)
all_from p a (suc n) h j g l =
    let parts = and_parts (p a) (list_all p (range_with_len (a + 1) n)) h in
    elim (cases_eq a j) [
      | inl here ↦ ap p (sym here) ∙ parts.0
      | inr other ↦ all_from p (a + 1) n parts.1 j (omega arith) (omega arith)
    ]

module _ (class : Flag → Bool) (f : Frame) where
  pub some_valid-SomeValid : (some_valid class f (places f.conditions) ≡ true) ↔ SomeValid class f
  some_valid-SomeValid = (
    λ h. let t = any_from (λ j. class (flag_at f.conditions j) && (settled_at f j).valid) 0 (length f.conditions) h in
        let parts = and_parts (class (flag_at f.conditions t.at)) (settled_at f t.at).valid t.passes in
        record { place = t.at; within = omega (arith, t.below); of_class = parts.0; valid = parts.1 },
    λ s. any_to (λ j. class (flag_at f.conditions j) && (settled_at f j).valid) 0
        (length f.conditions) s.place (omega arith) (omega (arith, s.within)) (and_from
        (class (flag_at f.conditions s.place)) (settled_at f s.place).valid s.of_class s.valid),
  )

  pub all_valid-EachValid : (all_valid class f (places f.conditions) ≡ true) ↔ EachValid class f
  all_valid-EachValid = (
    λ h. record {
      at = λ j l e. by_class (class (flag_at f.conditions j)) (settled_at f j).valid e
          (all_from (λ k. not (class (flag_at f.conditions k)) || (settled_at f k).valid) 0
          (length f.conditions) h j (omega arith) (omega arith));
    },
    λ s. all_to (λ k. not (class (flag_at f.conditions k)) || (settled_at f k).valid) 0
        (length f.conditions) (λ j g l. by_valid (class (flag_at f.conditions j)) refl
        (settled_at f j).valid refl (s.at j (omega arith))),
  )
    where
      by_class : (c v : Bool) → c ≡ true → (not c || v) ≡ true → v ≡ true
      by_class true v e h = h
      by_class false v e h = absurd (false≢true e)

      by_valid : (c : Bool) {d : Bool} → d ≡ c → (v : Bool) {w : Bool} → w ≡ v
          → (d ≡ true → w ≡ true) → (not c || v) ≡ true
      by_valid false e v q h = refl
      by_valid true e v q h = sym q ∙ h e

-- the greatest number over a range, if a condition there is measured
pub record IsGreatestOn (form : Form) (f : Frame) (a n m : ℕ) : Type 0 where
  pub place : ℕ
  pub from : a ≤ place
  pub below : place < a + n
  pub measured : is_measured (flag_at f.conditions place) ≡ true
  pub number : m ≡ number_at form f place
  pub above : (j : ℕ) → a ≤ j → j < a + n → is_measured (flag_at f.conditions j) ≡ true → number_at form f j ≤ m

some_none : {n : ℕ} → ◌≡◌ {A = Option ℕ} None (Some n) → ⊥
some_none h = cc

same_some : {m n : ℕ} → ◌≡◌ {A = Option ℕ} (Some m) (Some n) → m ≡ n
same_some h = cc

module _ (form : Form) (f : Frame) where
  greatest_none : (a n : ℕ) → greatest form f (range_with_len a n) ≡ None → (j : ℕ) → a ≤ j
      → j < a + n → is_measured (flag_at f.conditions j) ≡ false
  greatest_none a zero h j g l = absurd (omega arith)
  greatest_none a (suc n) h j g l = by_flag (is_measured (flag_at f.conditions a)) refl
      (greatest form f (range_with_len (a + 1) n)) refl (λ e. greatest_none (a + 1) n e) h
    where
      by_flag : (b : Bool) → is_measured (flag_at f.conditions a) ≡ b → (r : Option ℕ)
          → greatest form f (range_with_len (a + 1) n) ≡ r
          → (greatest form f (range_with_len (a + 1) n) ≡ None → (k : ℕ) → a + 1 ≤ k
          → k < (a + 1) + n → is_measured (flag_at f.conditions k) ≡ false) → larger (cond b
          (Some (number_at form f a)) None) r ≡ None → is_measured (flag_at f.conditions j) ≡ false
      by_flag false e r is rest none = elim (cases_eq a j) [
        | inl here ↦ ap (λ k. is_measured (flag_at f.conditions k)) (sym here) ∙ e
        | inr other ↦ rest (is ∙ none) j (omega arith) (omega arith)
      ]
      by_flag true e None is rest none = absurd (some_none (sym none))
      by_flag true e (Some m) is rest none = absurd (some_none (sym none))

  greatest_some : (a n m : ℕ) → greatest form f (range_with_len a n) ≡ Some m → IsGreatestOn form f a n m
  greatest_some a zero m h = absurd (some_none h)
  greatest_some a (suc n) m h = by_flag (is_measured (flag_at f.conditions a)) refl
      (greatest form f (range_with_len (a + 1) n)) refl (λ k e. greatest_some (a + 1) n k e)
      (greatest_none (a + 1) n) h
    where
      by_flag : (b : Bool) → is_measured (flag_at f.conditions a) ≡ b → (r : Option ℕ)
          → greatest form f (range_with_len (a + 1) n) ≡ r → ((k : ℕ) → greatest form f
          (range_with_len (a + 1) n) ≡ Some k → IsGreatestOn form f (a + 1) n k) → (greatest form f
          (range_with_len (a + 1) n) ≡ None → (j : ℕ) → a + 1 ≤ j → j < (a + 1) + n → is_measured
          (flag_at f.conditions j) ≡ false) → larger (cond b (Some (number_at form f a)) None) r
          ≡ Some m → IsGreatestOn form f a (suc n) m
      by_flag false e r is some none h =
          let rest = some m (is ∙ h) in
          record {
            place = rest.place;
            from = omega (arith, rest.from);
            below = omega (arith, rest.below);
            measured = rest.measured;
            number = rest.number;
            above = λ j g l q. elim (cases_eq a j) [
              | inl here ↦ absurd (true≢false (sym q ∙ ap (λ k. is_measured (flag_at f.conditions k)) (sym here) ∙ e))
              | inr other ↦ rest.above j (omega arith) (omega arith) q
            ];
          }
      by_flag true e None is some none h =
          let num : m ≡ number_at form f a = sym (same_some h) in
          record {
            place = a;
            from = omega arith;
            below = omega arith;
            measured = e;
            number = num;
            above = λ j g l q. elim (cases_eq a j) [
              | inl here ↦ let same = ap (number_at form f) here in omega (arith, num, same)
              | inr other ↦ absurd (true≢false (sym q ∙ none is j (omega arith) (omega arith)))
            ];
          }
      by_flag true e (Some k) is some none h =
          let rest = some k is in
          let most : m ≡ max (number_at form f a) k = sym (same_some h) in
          let above : (j : ℕ) → a ≤ j → j < a + suc n → is_measured (flag_at f.conditions j) ≡ true
          → number_at form f j ≤ m = λ j g l q. elim (cases_eq a j) [
            | inl here ↦ let same = ap (number_at form f) here in omega (arith, most, same)
            | inr other ↦ let under = rest.above j (omega arith) (omega arith) q in omega (arith, most, under)
          ] in
          elim (cases_lt (number_at form f a) k) [
            | inl less ↦
                record {
                  place = rest.place;
                  from = omega (arith, rest.from);
                  below = omega (arith, rest.below);
                  measured = rest.measured;
                  number = omega (arith, most, rest.number);
                  above = above;
                }
            | inr more ↦
                record {
                  place = a;
                  from = omega arith;
                  below = omega arith;
                  measured = e;
                  number = omega (arith, most);
                  above = above;
                }
          ]

  greatest_unmeasured : (a n : ℕ) → ((j : ℕ) → a ≤ j → j < a + n
      → is_measured (flag_at f.conditions j) ≡ false) → greatest form f (range_with_len a n) ≡ None
  greatest_unmeasured a zero h = refl
  greatest_unmeasured a (suc n) h =
      ap (λ b. larger (cond b (Some (number_at form f a)) None)
      (greatest form f (range_with_len (a + 1) n))) (h a (omega arith) (omega arith))
      ∙ greatest_unmeasured (a + 1) n (λ j g l. h j (omega arith) (omega arith))

  option_none : (b : Bool) (o : Option ℕ) → option_if b o ≡ None → o ≡ None
  option_none true o h = h
  option_none false None h = h
  option_none false (Some n) h = absurd (some_none (sym h))

  pub unmeasured : ((outcome_of form f).measured ≡ None) ↔ (((outcome_of form f).paused ≡ true) ⊎ NoneMeasured f)
  unmeasured = (from_none (outcome_of form f).paused refl, to_none)
    where
      from_none : (b : Bool) → (outcome_of form f).paused ≡ b
          → cond b None (option_if (all_valid is_measured_if f (places f.conditions)) (greatest form
          f (places f.conditions))) ≡ None → ((outcome_of form f).paused ≡ true) ⊎ NoneMeasured f
      from_none true e h = inl e
      from_none false e h =
          let none = option_none (all_valid is_measured_if f (places f.conditions))
          (greatest form f (places f.conditions)) h in
          inr (record { at = λ j l. greatest_none 0 (length f.conditions) none j (omega arith) (omega arith) })

      at_none : (b : Bool) → option_if b None ≡ None
      at_none true = refl
      at_none false = refl

      at_pause : (b : Bool) → cond b None (option_if (all_valid is_measured_if f (places f.conditions)) None) ≡ None
      at_pause true = refl
      at_pause false = at_none (all_valid is_measured_if f (places f.conditions))

      to_none : ((outcome_of form f).paused ≡ true) ⊎ NoneMeasured f → (outcome_of form f).measured ≡ None
      to_none (inl e) = ap (λ b. cond b None (option_if (all_valid is_measured_if f
          (places f.conditions)) (greatest form f (places f.conditions)))) e
      to_none (inr none) =
          ap (λ o. cond (outcome_of form f).paused None
          (option_if (all_valid is_measured_if f (places f.conditions)) o))
          (greatest_unmeasured 0 (length f.conditions) (λ j g l. none.at j (omega arith)))
          ∙ at_pause (outcome_of form f).paused

  pub measured_greatest : (n : ℕ) → (outcome_of form f).measured ≡ Some n
      → EachValid is_measured_if f → IsGreatestNumber form f n
  measured_greatest n h counts = by_pause (outcome_of form f).paused refl h
    where
      by_pause : (b : Bool) → (outcome_of form f).paused ≡ b
          → cond b None (option_if (all_valid is_measured_if f (places f.conditions))
          (greatest form f (places f.conditions))) ≡ Some n → IsGreatestNumber form f n
      by_pause true e h = absurd (some_none h)
      by_pause false e h =
          let all = (all_valid-EachValid is_measured_if f).1 counts in
          let on = greatest_some 0 (length f.conditions) n
          (sym (ap (λ b. option_if b (greatest form f (places f.conditions))) all) ∙ h) in
          record {
            place = on.place;
            within = omega (arith, on.below);
            measured = on.measured;
            number = on.number;
            above = λ j l q. on.above j (omega arith) (omega arith) q;
          }

  pub measured_zero : (n : ℕ) → (outcome_of form f).measured ≡ Some n → ¬ (EachValid is_measured_if f) → n ≡ 0
  measured_zero n h some = by_pause (outcome_of form f).paused (all_valid is_measured_if f
      (places f.conditions)) refl (greatest form f (places f.conditions)) h
    where
      by_pause : (b c : Bool) → all_valid is_measured_if f (places f.conditions) ≡ c
          → (o : Option ℕ) → cond b None (option_if c o) ≡ Some n → n ≡ 0
      by_pause true c e o h = absurd (some_none h)
      by_pause false true e o h = absurd (some ((all_valid-EachValid is_measured_if f).0 e))
      by_pause false false e None h = absurd (some_none h)
      by_pause false false e (Some m) h = sym (same_some h)

  -- the four answers, by their conditions
  pub paused_is : ((outcome_of form f).paused ≡ true) ↔ SomeValid is_pause f
  paused_is = some_valid-SomeValid is_pause f

  pub reset_is : ((outcome_of form f).reset ≡ true) ↔ (((outcome_of form f).paused ≡ false) × SomeValid is_reset f)
  reset_is = (
    λ h. let parts = and_parts (not (outcome_of form f).paused) (some_valid is_reset f (places f.conditions)) h in
        (not-true (outcome_of form f).paused parts.0, (some_valid-SomeValid is_reset f).0 parts.1),
    λ p. and_from (not (outcome_of form f).paused) (some_valid is_reset f (places f.conditions))
        (not_from_false (outcome_of form f).paused p.0) ((some_valid-SomeValid is_reset f).1 p.1),
  )

  holds_is : (class : Flag → Bool) → (((not (outcome_of form f).paused && not (outcome_of form
      f).reset) && all_valid class f (places f.conditions)) ≡ true) ↔ (((outcome_of form f).paused
      ≡ false) × ((outcome_of form f).reset ≡ false) × EachValid class f)
  holds_is class = (
    λ h. let parts = and_parts (not (outcome_of form f).paused && not (outcome_of form f).reset)
        (all_valid class f (places f.conditions)) h in
        let open_parts = and_parts (not (outcome_of form f).paused) (not (outcome_of form f).reset) parts.0 in (
          not-true (outcome_of form f).paused open_parts.0,
          not-true (outcome_of form f).reset open_parts.1,
          (all_valid-EachValid class f).0 parts.1,
        ),
    λ p. and_from (not (outcome_of form f).paused && not (outcome_of form f).reset)
        (all_valid class f (places f.conditions))
        (and_from (not (outcome_of form f).paused) (not (outcome_of form f).reset) (not_from_false
        (outcome_of form f).paused p.0) (not_from_false (outcome_of form f).reset p.1))
        ((all_valid-EachValid class f).1 p.2),
  )

  pub valid_is : ((outcome_of form f).valid ≡ true) ↔ (((outcome_of form f).paused ≡ false)
      × ((outcome_of form f).reset ≡ false) × EachValid is_required f)
  valid_is = holds_is is_required

  pub primed_is : ((outcome_of form f).primed ≡ true) ↔ (((outcome_of form f).paused ≡ false)
      × ((outcome_of form f).reset ≡ false) × EachValid is_wanted f)
  primed_is = holds_is is_wanted
