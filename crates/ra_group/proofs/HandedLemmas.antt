-- The comparisons of conditions that only hand a value on do not matter.
use Rattle.std.proofs.Common.{◌≡◌, ℕ, zero, suc, Bool, true, false, not, ◌&&◌, ◌||◌, cond, Option, None, Some, List, []}
use Rattle.std.proofs.Common.{◌∷◌, map, slice_index, refl, sym, ap, ◌∙◌}
use Rattle.std.specs.List.{list_any, list_all}
use Rattle.std.proofs.lemmas.Bool.{false≢true}
use Rattle.ra_condition.specs.declared.flag.Flag.{Flag}
use Rattle.ra_condition.specs.declared.flag.Flag.TheVariants.{AddSource, SubSource, AddAddress, Remember}
use Rattle.ra_condition.specs.declared.condition.Condition.{Condition}
use Rattle.ra_condition.specs.Flags.{hands_on, is_pause, is_reset, is_measured, is_measured_if, is_wanted, is_required}
use Rattle.ra_condition.specs.Contents.{condition_at, flag_at}
use Rattle.ra_condition.specs.Chains.{in_pause_chain, places}
use Rattle.ra_group.specs.declared.form.Form.{Form}
use Rattle.ra_group.specs.declared.outcome.Outcome.{Outcome}
use Rattle.ra_group.specs.declared.settled.Settled.{Settled}
use Rattle.ra_group.specs.Equations.{Frame, frame_of, settled, seen_after, prev_of, settled_at}
use Rattle.ra_group.specs.Outcome.{some_valid, all_valid, number_of, larger, offer, greatest, option_if, outcome_of}
use Rattle.ra_group.specs.Outcome.{next_hit, next_hits}
use Rattle.ra_group.specs.Handed.{AgreeWhereCounted}
use Rattle.ra_group.proofs.Carried.{settled_after, seen_after_handed}
use Rattle.ra_group.proofs.CountingLemmas.{outcome_of-from_hits}

-- a class of flags of which none only hands a value on
abbrev CountsAll : (Flag → Bool) → Type 0
CountsAll class = (flag : Flag) → hands_on flag ≡ true → class flag ≡ false

pauses_count : CountsAll is_pause
pauses_count AddSource h = refl
pauses_count SubSource h = refl
pauses_count AddAddress h = refl
pauses_count Remember h = refl
pauses_count flag h = absurd (false≢true h)

resets_count : CountsAll is_reset
resets_count AddSource h = refl
resets_count SubSource h = refl
resets_count AddAddress h = refl
resets_count Remember h = refl
resets_count flag h = absurd (false≢true h)

measured_count : CountsAll is_measured
measured_count AddSource h = refl
measured_count SubSource h = refl
measured_count AddAddress h = refl
measured_count Remember h = refl
measured_count flag h = absurd (false≢true h)

measured_ifs_count : CountsAll is_measured_if
measured_ifs_count AddSource h = refl
measured_ifs_count SubSource h = refl
measured_ifs_count AddAddress h = refl
measured_ifs_count Remember h = refl
measured_ifs_count flag h = absurd (false≢true h)

wanted_count : CountsAll is_wanted
wanted_count AddSource h = refl
wanted_count SubSource h = refl
wanted_count AddAddress h = refl
wanted_count Remember h = refl
wanted_count flag h = absurd (false≢true h)

required_count : CountsAll is_required
required_count AddSource h = refl
required_count SubSource h = refl
required_count AddAddress h = refl
required_count Remember h = refl
required_count flag h = absurd (false≢true h)

any_same : (p q : ℕ → Bool) → ((j : ℕ) → p j ≡ q j) → (js : List ℕ) → list_any p js ≡ list_any q js
any_same p q same [] = refl
any_same p q same (j ∷ js) = ap (λ b. b || list_any p js) (same j) ∙ ap (λ b. q j || b) (any_same p q same js)

all_same : (p q : ℕ → Bool) → ((j : ℕ) → p j ≡ q j) → (js : List ℕ) → list_all p js ≡ list_all q js
all_same p q same [] = refl
all_same p q same (j ∷ js) = ap (λ b. b && list_all p js) (same j) ∙ ap (λ b. q j && b) (all_same p q same js)

map_same : (g h : ℕ → ℕ) → ((j : ℕ) → g j ≡ h j) → (js : List ℕ) → map g js ≡ map h js
map_same g h same [] = refl
map_same g h same (j ∷ js) = ap (λ n. n ∷ map g js) (same j) ∙ ap (λ ns. h j ∷ ns) (map_same g h same js)

module _ (cs : List Condition) (truths truths' : List Bool) (lefts hits : List ℕ)
    (agree : AgreeWhereCounted cs truths truths') where
  abbrev f : Frame
  f = frame_of cs truths lefts hits

  abbrev f' : Frame
  f' = frame_of cs truths' lefts hits

  settled_same : (j : ℕ) (prev : Option Settled) → hands_on (flag_at cs j) ≡ false
      → settled_after f prev j ≡ settled_after f' prev j
  settled_same j prev counted = ap (λ t. settled (condition_at cs j) t (slice_index hits j) prev) (agree.at j counted)

  prev_same : (j : ℕ) → prev_of f j ≡ prev_of f' j
  prev_same zero = refl
  prev_same (suc m) = by_handing (hands_on (flag_at cs m)) refl (prev_same m)
    where
      by_handing : (b : Bool) → hands_on (flag_at cs m) ≡ b → prev_of f m ≡ prev_of f' m
          → prev_of f (suc m) ≡ prev_of f' (suc m)
      by_handing true h before =
          seen_after_handed (condition_at cs m) (settled_after f (prev_of f m) m) (prev_of f m) h
          ∙ before
          ∙ sym (seen_after_handed (condition_at cs m) (settled_after f' (prev_of f' m) m) (prev_of f' m) h)
      by_handing false h before =
          ap (λ prev. seen_after (condition_at cs m) (settled_after f prev m) prev) before
          ∙ ap (λ here. seen_after (condition_at cs m) here (prev_of f' m)) (settled_same m (prev_of f' m) h)

  at_same : (j : ℕ) → hands_on (flag_at cs j) ≡ false → settled_at f j ≡ settled_at f' j
  at_same j counted = ap (λ prev. settled_after f prev j) (prev_same j) ∙ settled_same j (prev_of f' j) counted

  -- of a condition that counts, or under a class of such
  valid_in : (class : Flag → Bool) → CountsAll class → (j : ℕ) → (class (flag_at cs j)
      && (settled_at f j).valid) ≡ (class (flag_at cs j) && (settled_at f' j).valid)
  valid_in class counts j = by_handing (hands_on (flag_at cs j)) refl
    where
      by_handing : (b : Bool) → hands_on (flag_at cs j) ≡ b → (class (flag_at cs j)
          && (settled_at f j).valid) ≡ (class (flag_at cs j) && (settled_at f' j).valid)
      by_handing true h = ap (λ b. b && (settled_at f j).valid) (counts (flag_at cs j) h)
          ∙ sym (ap (λ b. b && (settled_at f' j).valid) (counts (flag_at cs j) h))
      by_handing false h = ap (λ s. class (flag_at cs j) && s.valid) (at_same j h)

  valid_or : (class : Flag → Bool) → CountsAll class → (j : ℕ) → (not (class (flag_at cs j))
      || (settled_at f j).valid) ≡ (not (class (flag_at cs j)) || (settled_at f' j).valid)
  valid_or class counts j = by_handing (hands_on (flag_at cs j)) refl
    where
      by_handing : (b : Bool) → hands_on (flag_at cs j) ≡ b → (not (class (flag_at cs j))
          || (settled_at f j).valid) ≡ (not (class (flag_at cs j)) || (settled_at f' j).valid)
      by_handing true h = ap (λ b. not b || (settled_at f j).valid) (counts (flag_at cs j) h)
          ∙ sym (ap (λ b. not b || (settled_at f' j).valid) (counts (flag_at cs j) h))
      by_handing false h = ap (λ s. not (class (flag_at cs j)) || s.valid) (at_same j h)

  offer_same : (form : Form) (j : ℕ) → offer form f j ≡ offer form f' j
  offer_same form j = by_handing (hands_on (flag_at cs j)) refl
    where
      by_handing : (b : Bool) → hands_on (flag_at cs j) ≡ b → offer form f j ≡ offer form f' j
      by_handing true h = ap (λ b. cond b (Some (number_of form (condition_at cs j)
          (settled_at f j).total (slice_index lefts j))) None) (measured_count (flag_at cs j) h)
          ∙ sym (ap (λ b. cond b (Some (number_of form (condition_at cs j) (settled_at f' j).total
          (slice_index lefts j))) None) (measured_count (flag_at cs j) h))
      by_handing false h = ap (λ s. cond (is_measured (flag_at cs j)) (Some
          (number_of form (condition_at cs j) s.total (slice_index lefts j))) None) (at_same j h)

  greatest_same : (form : Form) (js : List ℕ) → greatest form f js ≡ greatest form f' js
  greatest_same form [] = refl
  greatest_same form (j ∷ js) = ap (λ o. larger o (greatest form f js)) (offer_same form j)
      ∙ ap (larger (offer form f' j)) (greatest_same form js)

  paused_same : some_valid is_pause f (places cs) ≡ some_valid is_pause f' (places cs)
  paused_same = any_same (λ j. is_pause (flag_at cs j) && (settled_at f j).valid) (λ j. is_pause
      (flag_at cs j) && (settled_at f' j).valid) (valid_in is_pause pauses_count) (places cs)

  class_same : (class : Flag → Bool) → CountsAll class → all_valid class f (places cs) ≡ all_valid class f' (places cs)
  class_same class counts = all_same (λ j. not (class (flag_at cs j)) || (settled_at f j).valid) (λ
      j. not (class (flag_at cs j)) || (settled_at f' j).valid) (valid_or class counts) (places cs)

  abbrev outcome : (paused reset required wanted counting : Bool) → Option ℕ → Bool → Outcome
  outcome paused reset required wanted counting number from_hits = record {
    paused = paused;
    reset = not paused && reset;
    valid = not paused && not (not paused && reset) && required;
    primed = not paused && not (not paused && reset) && wanted;
    measured = cond paused None (option_if counting number);
    from_hits = from_hits;
  }

  same_outcome : {a b c d e h a' b' c' d' e' h' : Bool} {g g' : Option ℕ} → a ≡ a' → b ≡ b' → c ≡ c'
      → d ≡ d' → e ≡ e' → g ≡ g' → h ≡ h' → outcome a b c d e g h ≡ outcome a' b' c' d' e' g' h'
  same_outcome p q r s t u v = cc

  pub outcome_handed : (form : Form) → outcome_of form f ≡ outcome_of form f'
  outcome_handed form =
      same_outcome paused_same
      (any_same (λ j. is_reset (flag_at cs j) && (settled_at f j).valid) (λ j. is_reset
      (flag_at cs j) && (settled_at f' j).valid) (valid_in is_reset resets_count) (places cs))
      (class_same is_required required_count)
      (class_same is_wanted wanted_count)
      (class_same is_measured_if measured_ifs_count)
      (greatest_same form (places cs))
      (outcome_of-from_hits form f ∙ sym (outcome_of-from_hits form f'))

  hit_same : (j : ℕ) → next_hit f j ≡ next_hit f' j
  hit_same j = by_handing (hands_on (flag_at cs j)) refl
    where
      by_handing : (b : Bool) → hands_on (flag_at cs j) ≡ b → next_hit f j ≡ next_hit f' j
      by_handing true h =
          ap (λ b. cond (not b && (not (some_valid is_pause f (places cs)) || in_pause_chain cs j))
          (settled_at f j).hit (slice_index hits j)) h
          ∙ sym (ap (λ b. cond (not b && (not (some_valid is_pause f' (places cs))
          || in_pause_chain cs j)) (settled_at f' j).hit (slice_index hits j)) h)
      by_handing false h =
          ap (λ s. cond (not (hands_on (flag_at cs j)) && (not (some_valid is_pause f (places cs))
          || in_pause_chain cs j)) s.hit (slice_index hits j)) (at_same j h)
          ∙ ap (λ b. cond (not (hands_on (flag_at cs j)) && (not b || in_pause_chain cs j))
          (settled_at f' j).hit (slice_index hits j)) paused_same

  pub next_hits_handed : next_hits f ≡ next_hits f'
  next_hits_handed = map_same (next_hit f) (next_hit f') hit_same (places cs)
