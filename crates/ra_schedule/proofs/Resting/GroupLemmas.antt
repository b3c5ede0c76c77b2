-- Hits of free conditions change nothing of what a group says, and nothing of other hits.
use Rattle.std.proofs.Common.{◌≡◌, ℕ, zero, suc, min, Bool, true, false, not, ◌&&◌, ◌||◌, ◌==◌, cond, nat_le, Option}
use Rattle.std.proofs.Common.{None, Some, option_map, List, [], ◌∷◌, slice_index, slice_index_or, pos, ℤ, ◌+ℤ◌, refl}
use Rattle.std.proofs.Common.{sym, ap, ◌∙◌}
use Rattle.std.specs.List.{list_any, list_all}
use Rattle.std.proofs.lemmas.Bool.{false≢true, cond-true, cond-false}
use Rattle.ra_condition.specs.declared.flag.Flag.{Flag}
use Rattle.ra_condition.specs.declared.flag.Flag.TheVariants.{AddHits, SubHits}
use Rattle.ra_condition.specs.declared.condition.Condition.{Condition}
use Rattle.ra_condition.specs.Flags.{combines, hands_on, is_pause, is_reset, is_measured, is_measured_if, is_wanted}
use Rattle.ra_condition.specs.Flags.{is_required}
use Rattle.ra_condition.specs.Contents.{condition_at, flag_at}
use Rattle.ra_condition.specs.Chains.{in_pause_chain, places}
use Rattle.ra_group.specs.declared.form.Form.{Form}
use Rattle.ra_group.specs.declared.outcome.Outcome.{Outcome}
use Rattle.ra_group.specs.declared.settled.Settled.{Settled}
use Rattle.ra_group.specs.Equations.{Frame, met, reset_by, add_after, add_by, hits_after, valid_alone, valid_by}
use Rattle.ra_group.specs.Equations.{clamped, settled, prev_of, settled_at}
use Rattle.ra_group.specs.Outcome.{some_valid, all_valid, from_total, number_of, larger, offer, greatest, option_if}
use Rattle.ra_group.specs.Outcome.{outcome_of}
use Rattle.ra_schedule.specs.Groups.{hands_hits, is_free, is_stepped, is_counting, with_hits, AgreeButFree}

-- a condition by its equations, from what it takes of the one before it
abbrev settled_from : Condition → ℕ → (m reset : Bool) → ℤ → Settled
settled_from c h m reset add =
    let hit = hits_after reset m c.target h in
    let total = clamped (pos hit +ℤ add) in
    record {
      flag = c.flag;
      reset = reset;
      hit = hit;
      add = add;
      total = total;
      valid = valid_by c.flag c.target total
          (valid_alone reset m c.target hit);
    }

-- what the next condition of a chain takes of this one
abbrev taken : Settled → Settled
taken s = record {
  flag = s.flag;
  reset = s.reset;
  hit = cond
      (hands_hits s.flag) s.hit 0;
  add = s.add;
  total = 0;
  valid = s.valid;
}

met-taken : (p : Option Settled) (t : Bool) → met (option_map taken p) t ≡ met p t
met-taken None t = refl
met-taken (Some s) t = refl

reset-taken : (p : Option Settled) → reset_by (option_map taken p) ≡ reset_by p
reset-taken None = refl
reset-taken (Some s) = refl

add_after-taken : (flag : Flag) (add : ℤ) (hit : ℕ)
    → add_after flag add (cond (hands_hits flag) hit 0) ≡ add_after flag add hit
add_after-taken AddHits add hit = refl
add_after-taken SubHits add hit = refl
add_after-taken _ add hit = refl

add-taken : (p : Option Settled) → add_by (option_map taken p) ≡ add_by p
add-taken None = refl
add-taken (Some s) = add_after-taken s.flag s.add s.hit

right_true : (a b : Bool) → b ≡ true → (a || b) ≡ true
right_true true b e = refl
right_true false b e = e

left_of : (a b : Bool) → (a && b) ≡ true → a ≡ true
left_of true b e = refl
left_of false b e = absurd (false≢true e)

right_of : (a b : Bool) → (a && b) ≡ true → b ≡ true
right_of true b e = e
right_of false b e = absurd (false≢true e)

not_true : (b : Bool) → not b ≡ true → b ≡ false
not_true false e = refl
not_true true e = absurd (false≢true e)

module _ (form : Form) (c : Condition) (free : is_free form c ≡ true) where
  -- a free condition has no target
  pub no_target : (c.target == 0) ≡ true
  no_target = left_of (c.target == 0) (not (hands_hits c.flag) && not (is_measured c.flag && from_total form c)) free

  keeps_hits : hands_hits c.flag ≡ false
  keeps_hits =
      not_true (hands_hits c.flag)
      (left_of (not (hands_hits c.flag)) (not (is_measured c.flag && from_total form c))
      (right_of (c.target == 0) (not (hands_hits c.flag) && not (is_measured c.flag && from_total form c)) free))

  no_total : (is_measured c.flag && from_total form c) ≡ false
  no_total =
      not_true (is_measured c.flag && from_total form c)
      (right_of (not (hands_hits c.flag)) (not (is_measured c.flag && from_total form c))
      (right_of (c.target == 0) (not (hands_hits c.flag) && not (is_measured c.flag && from_total form c)) free))

  -- its validity has no hits in it
  valid-free : (h : ℕ) (m reset : Bool) (add : ℤ) → (settled_from c h m reset add).valid ≡ (not reset && m)
  valid-free h m reset add =
      cond-true (combines c.flag || c.target == 0) (valid_alone reset m c.target (hits_after reset m c.target h)) (not
      (c.target == 0) && nat_le c.target (settled_from c h m reset add).total) (right_true (combines c.flag)
      (c.target == 0) no_target)
      ∙ ap (λ b. not reset && b) (cond-true (c.target == 0) m
      (nat_le c.target (hits_after reset m c.target h)) no_target)

  -- and the next condition takes no hits of it
  taken-free : (h h' : ℕ) (m reset : Bool) (add : ℤ)
      → taken (settled_from c h m reset add) ≡ taken (settled_from c h' m reset add)
  taken-free h h' m reset add =
      let hits = cond-false (hands_hits c.flag) (settled_from c h m reset add).hit 0 keeps_hits
      ∙ sym (cond-false (hands_hits c.flag) (settled_from c h' m reset add).hit 0 keeps_hits) in
      let valid = valid-free h m reset add ∙ sym (valid-free h' m reset add) in
      ap (λ hit. record {
        flag = c.flag;
        reset = reset;
        hit = hit;
        add = add;
        total = 0;
        valid =
            (settled_from c h m reset add).valid;
      }) hits
      ∙ ap (λ valid. record {
        flag = c.flag;
        reset = reset;
        hit = cond (hands_hits c.flag)
            (settled_from c h' m reset add).hit 0;
        add = add;
        total = 0;
        valid = valid;
      }) valid

  -- and the number that it may offer is its left value
  number-free : (total total' left : ℕ)
      → cond (is_measured c.flag) (Some (number_of form c total left)) None
      ≡ cond (is_measured c.flag) (Some (number_of form c total' left)) None
  number-free total total' left = by_flag (is_measured c.flag) (from_total form c) no_total
    where
      by_flag : (a b : Bool) → (a && b) ≡ false
          → cond a (Some (cond b (cond (c.target == 0) total (min total c.target)) left)) None
          ≡ cond a (Some (cond b (cond (c.target == 0) total' (min total' c.target)) left)) None
      by_flag false b e = refl
      by_flag true false e = refl
      by_flag true true e = absurd (false≢true (sym e))

-- what stands before a condition counts by what is taken of it
settled-taken : (c : Condition) (t : Bool) (h : ℕ) (p : Option Settled)
    → settled c t h p ≡ settled_from c h (met (option_map taken p) t) (reset_by (option_map taken p)) (add_by
    (option_map taken p))
settled-taken c t h p =
    ap (λ m. settled_from c h m (reset_by p) (add_by p)) (sym (met-taken p t))
    ∙ ap (λ r. settled_from c h (met (option_map taken p) t) r (add_by p)) (sym (reset-taken p))
    ∙ ap (λ a. settled_from c h (met (option_map taken p) t) (reset_by (option_map taken p)) a) (sym (add-taken p))

settled-alike : (c : Condition) (t : Bool) (h : ℕ) (p q : Option Settled) → option_map taken p ≡ option_map taken q
    → settled c t h p ≡ settled c t h q
settled-alike c t h p q same =
    settled-taken c t h p
    ∙ ap (λ x. settled_from c h (met x t) (reset_by x) (add_by x)) same
    ∙ sym (settled-taken c t h q)

any_same : (p q : ℕ → Bool) → ((j : ℕ) → p j ≡ q j) → (js : List ℕ) → list_any p js ≡ list_any q js
any_same p q same [] = refl
any_same p q same (j ∷ js) = ap (λ b. b || list_any p js) (same j) ∙ ap (λ b. q j || b) (any_same p q same js)

all_same : (p q : ℕ → Bool) → ((j : ℕ) → p j ≡ q j) → (js : List ℕ) → list_all p js ≡ list_all q js
all_same p q same [] = refl
all_same p q same (j ∷ js) = ap (λ b. b && list_all p js) (same j) ∙ ap (λ b. q j && b) (all_same p q same js)

module _ (form : Form) (f : Frame) (hits : List ℕ) (agree : AgreeButFree form f.conditions f.hits hits) where
  abbrev f' : Frame
  f' = with_hits f hits

  abbrev c_at : ℕ → Condition
  c_at j = condition_at f.conditions j

  abbrev t_at : ℕ → Bool
  t_at j = slice_index_or f.truths j false

  -- a condition takes the same of what stands before it, and hands the same on
  handed : (j : ℕ) → option_map taken (prev_of f j) ≡ option_map taken (prev_of f' j)
      → taken (settled_at f j) ≡ taken (settled_at f' j)
  handed j before = by_free (is_free form (c_at j)) refl
    where
      by_free : (b : Bool) → is_free form (c_at j) ≡ b → taken (settled_at f j) ≡ taken (settled_at f' j)
      by_free true free =
          ap taken (settled-alike (c_at j) (t_at j) (slice_index f.hits j) (prev_of f j) (prev_of f' j) before)
          ∙ taken-free form (c_at j) free (slice_index f.hits j) (slice_index hits j) (met (prev_of f' j) (t_at j))
          (reset_by (prev_of f' j)) (add_by (prev_of f' j))
      by_free false bound =
          ap taken (settled-alike (c_at j) (t_at j) (slice_index f.hits j) (prev_of f j) (prev_of f' j) before)
          ∙ ap (λ h. taken (settled (c_at j) (t_at j) h (prev_of f' j))) (agree.at j bound)

  before_same : (j : ℕ) → option_map taken (prev_of f j) ≡ option_map taken (prev_of f' j)
  before_same zero = refl
  before_same (suc i) = by_flag (hands_on (c_at i).flag) (combines (c_at i).flag) (before_same i) (handed i
      (before_same i))
    where
      by_flag : (a b : Bool) → option_map taken (prev_of f i) ≡ option_map taken (prev_of f' i)
          → taken (settled_at f i) ≡ taken (settled_at f' i)
          → option_map taken (cond a (prev_of f i) (cond b (Some (settled_at f i)) None))
          ≡ option_map taken (cond a (prev_of f' i) (cond b (Some (settled_at f' i)) None))
      by_flag true b before here = before
      by_flag false true before here = ap Some here
      by_flag false false before here = refl

  pub valid_same : (j : ℕ) → (settled_at f j).valid ≡ (settled_at f' j).valid
  valid_same j = ap (λ s. s.valid) (handed j (before_same j))

  -- a condition that is not free comes to the same
  pub bound_same : (j : ℕ) → is_free form (c_at j) ≡ false → settled_at f j ≡ settled_at f' j
  bound_same j bound =
      settled-alike (c_at j) (t_at j) (slice_index f.hits j) (prev_of f j) (prev_of f' j) (before_same j)
      ∙ ap (λ h. settled (c_at j) (t_at j) h (prev_of f' j)) (agree.at j bound)

  offer_same : (j : ℕ) → offer form f j ≡ offer form f' j
  offer_same j = by_free (is_free form (c_at j)) refl
    where
      by_free : (b : Bool) → is_free form (c_at j) ≡ b → offer form f j ≡ offer form f' j
      by_free true free = number-free form (c_at j) free (settled_at f j).total (settled_at f' j).total
          (slice_index f.lefts j)
      by_free false bound = ap (λ s. cond (is_measured (c_at j).flag)
          (Some (number_of form (c_at j) s.total (slice_index f.lefts j))) None) (bound_same j bound)

  greatest_same : (js : List ℕ) → greatest form f js ≡ greatest form f' js
  greatest_same [] = refl
  greatest_same (j ∷ js) = ap (λ o. larger o (greatest form f js)) (offer_same j)
      ∙ ap (larger (offer form f' j)) (greatest_same js)

  some_same : (class : Flag → Bool)
      → some_valid class f (places f.conditions) ≡ some_valid class f' (places f.conditions)
  some_same class = any_same (λ j. class (flag_at f.conditions j) && (settled_at f j).valid) (λ j. class
      (flag_at f.conditions j) && (settled_at f' j).valid) (λ j. ap (λ b. class (flag_at f.conditions j) && b)
      (valid_same j)) (places f.conditions)

  class_same : (class : Flag → Bool)
      → all_valid class f (places f.conditions) ≡ all_valid class f' (places f.conditions)
  class_same class = all_same (λ j. not (class (flag_at f.conditions j)) || (settled_at f j).valid) (λ j. not
      (class (flag_at f.conditions j)) || (settled_at f' j).valid) (λ j. ap (λ b. not
      (class (flag_at f.conditions j)) || b) (valid_same j)) (places f.conditions)

  abbrev outcome : (paused reset required wanted counting : Bool) → Option ℕ → Outcome
  outcome paused reset required wanted counting number = record {
    paused = paused;
    reset = not paused && reset;
    valid = not paused && not (not paused && reset) && required;
    primed = not paused && not (not paused && reset) && wanted;
    measured = cond paused None (option_if counting number);
    from_hits = list_any (λ j. is_measured (c_at j).flag && from_total form (c_at j)) (places f.conditions);
  }

  same_outcome : {a b c d e a' b' c' d' e' : Bool} {g g' : Option ℕ} → a ≡ a' → b ≡ b' → c ≡ c' → d ≡ d' → e ≡ e'
      → g ≡ g' → outcome a b c d e g ≡ outcome a' b' c' d' e' g'
  same_outcome p q r s t u = cc

  pub outcome_same : outcome_of form f ≡ outcome_of form f'
  outcome_same = same_outcome (some_same is_pause) (some_same is_reset) (class_same is_required)
      (class_same is_wanted) (class_same is_measured_if) (greatest_same (places f.conditions))

  pub stepped_same : (j : ℕ) → is_stepped f j ≡ is_stepped f' j
  stepped_same j = ap (λ b. not (hands_on (c_at j).flag) && (not b || in_pause_chain f.conditions j))
      (some_same is_pause)

  pub reset_same : (j : ℕ) → reset_by (prev_of f j) ≡ reset_by (prev_of f' j)
  reset_same j = sym (reset-taken (prev_of f j)) ∙ ap reset_by (before_same j) ∙ reset-taken (prev_of f' j)

  pub met_same : (j : ℕ) → met (prev_of f j) (t_at j) ≡ met (prev_of f' j) (t_at j)
  met_same j = sym (met-taken (prev_of f j) (t_at j)) ∙ ap (λ p. met p (t_at j)) (before_same j)
      ∙ met-taken (prev_of f' j) (t_at j)

  pub counting_same : (j : ℕ) → is_counting form f j ≡ is_counting form f' j
  counting_same j =
      ap (λ b. is_free form (c_at j) && (b && (not (reset_by (prev_of f j)) && met (prev_of f j) (t_at j))))
      (stepped_same j)
      ∙ ap (λ b. is_free form (c_at j) && (is_stepped f' j && (not b && met (prev_of f j) (t_at j)))) (reset_same j)
      ∙ ap (λ b. is_free form (c_at j) && (is_stepped f' j && (not (reset_by (prev_of f' j)) && b))) (met_same j)
