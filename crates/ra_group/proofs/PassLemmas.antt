-- How far the pass is: what it carries, tallies and writes after some places.
use Rattle.std.proofs.Common.{◌≡◌, ◌≢◌, ℕ, Bool, true, false, not, ◌&&◌, ◌||◌, cond, eqb, Option, None, Some, List, []}
use Rattle.std.proofs.Common.{◌∷◌, ◌++◌, length, get_or, slice_index, slice_index_or, refl, sym, ap, ◌∙◌, inl, inr}
use Rattle.std.specs.List.{list_any}
use Rattle.std.proofs.lemmas.List.FromFn.{fill_by_all}
use Rattle.std.proofs.lemmas.Bool.{cases_eq, cond-true, cond-false, eq-eqb, ne_eqb}
use Rattle.ra_condition.specs.Flags.{combines, hands_on, is_pause}
use Rattle.ra_condition.specs.Contents.{condition_at, flag_at}
use Rattle.ra_condition.specs.Chains.{in_pause_chain, places, pass_order}
use Rattle.ra_group.specs.declared.form.Form.{Form}
use Rattle.ra_group.specs.declared.settled.Settled.{Settled}
use Rattle.ra_group.specs.declared.tally.Tally.{Tally}
use Rattle.ra_group.specs.Equations.{Frame, settled, settled_at}
use Rattle.ra_group.specs.Outcome.{some_valid, outcome_of, next_hit, next_hits}
use Rattle.ra_group.specs.Tallies.{noted, no_tally, outcome_by}
use Rattle.ra_group.proofs.Carried.{combines_handed, carried, carried-push, settled_after, seen_after_handed}
use Rattle.ra_group.proofs.Carried.{seen_after_counted}
use Rattle.ra_group.proofs.TallyLemmas.{any_push, tally_of, tally_of-push, tally_of-parts, outcome_by-tally_of}
use Rattle.ra_group.proofs.TallyLemmas.{noted_combining}
use Rattle.ra_group.proofs.Turns.{Turn, visited, or_none}

-- the hits after these places: the next ones there, the old ones elsewhere
pub record AreWritten (f : Frame) (js : List ℕ) (hits : List ℕ) : Type 0 where
  pub each : (j : ℕ) → get_or hits j 0 ≡ cond (list_any (λ x. eqb x j) js) (next_hit f j) (get_or f.hits j 0)

-- the pass after these places
pub record HasPassed (form : Form) (f : Frame) (js : List ℕ) (before : Option Settled)
    (tally : Tally) (hits : List ℕ) : Type 0 where
  pub carries : before ≡ carried f js
  pub tallied : tally ≡ tally_of form f js
  pub written : AreWritten f js hits

pub passed_none : (form : Form) (f : Frame) → HasPassed form f [] None no_tally f.hits
passed_none form f = record { carries = refl; tallied = refl; written = record { each = λ j. refl } }

or_true : (a b : Bool) → b ≡ true → (a || b) ≡ true
or_true true b e = refl
or_true false b e = e

-- one place more is written
written_more : (f : Frame) (js hits hits' : List ℕ) (i : ℕ) → get_or hits' i 0 ≡ next_hit f i
    → ((j : ℕ) → j ≢ i → get_or hits' j 0 ≡ get_or hits j 0) → AreWritten f js hits
    → AreWritten f (js ++ i ∷ []) hits'
written_more f js hits hits' i here others w = record {
  each = λ j. elim (cases_eq j i) [
    | inl same ↦
        ap (λ k. get_or hits' k 0) same ∙ here ∙ ap (next_hit f) (sym same)
        ∙ sym (cond-true (list_any (λ x. eqb x j) (js ++ i ∷ [])) (next_hit f j) (get_or f.hits j 0)
        (any_push (λ x. eqb x j) js i ∙ or_true (list_any (λ x. eqb x j) js) (eqb i j) (eq-eqb i j (sym same))))
    | inr other ↦
        others j other ∙ w.each j
        ∙ ap (λ b. cond b (next_hit f j) (get_or f.hits j 0))
        (sym (any_push (λ x. eqb x j) js i
        ∙ or_none (list_any (λ x. eqb x j) js) (eqb i j) (ne_eqb i j (λ e. other (sym e)))))
  ];
}

-- the hits of a place that was not visited are the old ones
pub old_hits : (f : Frame) (js hits : List ℕ) (i : ℕ) → AreWritten f js hits
    → list_any (λ x. eqb x i) js ≡ false → get_or hits i 0 ≡ get_or f.hits i 0
old_hits f js hits i w fresh =
    w.each i ∙ cond-false (list_any (λ x. eqb x i) js) (next_hit f i) (get_or f.hits i 0) fresh

next_hit_handed : (f : Frame) (i : ℕ) → hands_on (flag_at f.conditions i) ≡ true → next_hit f i ≡ get_or f.hits i 0
next_hit_handed f i h = ap (λ b. cond (not b && (not (some_valid is_pause f (places f.conditions))
    || in_pause_chain f.conditions i)) (settled_at f i).hit (get_or f.hits i 0)) h

next_hit_counted : (f : Frame) (i : ℕ) → hands_on (flag_at f.conditions i) ≡ false → next_hit f i
    ≡ cond (not (some_valid is_pause f (places f.conditions)) || in_pause_chain f.conditions i)
    (settled_at f i).hit (get_or f.hits i 0)
next_hit_counted f i h = ap (λ b. cond (not b && (not (some_valid is_pause f (places f.conditions))
    || in_pause_chain f.conditions i)) (settled_at f i).hit (get_or f.hits i 0)) h

-- a condition that only hands a value on is passed over
pub passed_handed : (form : Form) (f : Frame) (js : List ℕ) (i : ℕ) (before : Option Settled)
    (tally : Tally) (hits : List ℕ) → Turn f js i → hands_on (flag_at f.conditions i) ≡ true
    → HasPassed form f js before tally hits → HasPassed form f (js ++ i ∷ []) before tally hits
passed_handed form f js i before tally hits turn h p = record {
  carries = p.carries ∙ sym (carried-push f js i ∙ seen_after_handed (condition_at f.conditions i)
      (settled_after f (carried f js) i) (carried f js) h);
  tallied = p.tallied ∙ sym (tally_of-push form f js i
      ∙ noted_combining form (condition_at f.conditions i) (settled_at f i) (slice_index f.lefts i)
      (tally_of form f js) (combines_handed (flag_at f.conditions i) h));
  written = written_more f js hits hits i (old_hits f js hits i p.written turn.fresh
      ∙ sym (next_hit_handed f i h)) (λ j other. refl) p.written;
}

-- what the pass settles at its turn is what the equations say
pub settled-turn : (form : Form) (f : Frame) (js : List ℕ) (i : ℕ) (before : Option Settled)
    (tally : Tally) (hits : List ℕ) → Turn f js i → HasPassed form f js before tally hits
    → settled (condition_at f.conditions i) (slice_index_or f.truths i false)
    (slice_index hits i) before ≡ settled_at f i
settled-turn form f js i before tally hits turn p =
    ap (λ h. settled (condition_at f.conditions i) (slice_index_or f.truths i false) h before)
    (old_hits f js hits i p.written turn.fresh)
    ∙ ap (settled (condition_at f.conditions i) (slice_index_or f.truths i false)
    (slice_index f.hits i)) (p.carries ∙ turn.before)

-- any other condition: what is carried, tallied and written then
pub passed_counted : (form : Form) (f : Frame) (js : List ℕ) (i : ℕ) (before : Option Settled)
    (tally : Tally) (hits hits' : List ℕ) → Turn f js i → hands_on (flag_at f.conditions i) ≡ false
    → HasPassed form f js before tally hits → get_or hits' i 0 ≡ next_hit f i → ((j : ℕ) → j ≢ i
    → get_or hits' j 0 ≡ get_or hits j 0) → HasPassed form f (js ++ i ∷ []) (cond (combines
    (flag_at f.conditions i)) (Some (settled_at f i)) None) (noted form (condition_at f.conditions
    i) (settled_at f i) (slice_index f.lefts i) tally) hits'
passed_counted form f js i before tally hits hits' turn h p here others = record {
  carries = sym (carried-push f js i ∙ seen_after_counted (condition_at f.conditions i)
      (settled_after f (carried f js) i) (carried f js) h ∙ ap (λ prev. cond
      (combines (flag_at f.conditions i)) (Some (settled_after f prev i)) None) turn.before);
  tallied = ap (noted form (condition_at f.conditions i) (settled_at f i) (slice_index f.lefts i))
      p.tallied ∙ sym (tally_of-push form f js i);
  written = written_more f js hits hits' i here others p.written;
}

-- within the pause chains the hits are counted
pub next_hit_early : (f : Frame) (i : ℕ) → hands_on (flag_at f.conditions i) ≡ false
    → in_pause_chain f.conditions i ≡ true → next_hit f i ≡ (settled_at f i).hit
next_hit_early f i h inside =
    next_hit_counted f i h
    ∙ cond-true (not (some_valid is_pause f (places f.conditions)) || in_pause_chain f.conditions i)
    (settled_at f i).hit (get_or f.hits i 0) (or_true
    (not (some_valid is_pause f (places f.conditions))) (in_pause_chain f.conditions i) inside)

-- after them, where the group is not paused
pub next_hit_late : (f : Frame) (i : ℕ) → hands_on (flag_at f.conditions i) ≡ false
    → in_pause_chain f.conditions i ≡ false → next_hit f i
    ≡ cond (some_valid is_pause f (places f.conditions)) (get_or f.hits i 0) (settled_at f i).hit
next_hit_late f i h outside =
    next_hit_counted f i h
    ∙ ap (λ b. cond (not (some_valid is_pause f (places f.conditions)) || b) (settled_at f i).hit
    (get_or f.hits i 0)) outside
    ∙ turned (some_valid is_pause f (places f.conditions))
  where
    turned : (b : Bool) → cond (not b || false) (settled_at f i).hit (get_or f.hits i 0)
        ≡ cond b (get_or f.hits i 0) (settled_at f i).hit
    turned true = refl
    turned false = refl

-- at the end the tally is that of the group
pub passed_outcome : (form : Form) (f : Frame) (before : Option Settled) (tally : Tally)
    (hits : List ℕ) → HasPassed form f (pass_order f.conditions) before tally hits
    → outcome_by tally ≡ outcome_of form f
passed_outcome form f before tally hits p =
    ap outcome_by (p.tallied ∙ tally_of-parts form f (in_pause_chain f.conditions) (places f.conditions))
    ∙ outcome_by-tally_of form f

-- and the hits are the next ones
pub passed_hits : (form : Form) (f : Frame) (before : Option Settled) (tally : Tally)
    (hits : List ℕ) → length hits ≡ length f.conditions
    → HasPassed form f (pass_order f.conditions) before tally hits → hits ≡ next_hits f
passed_hits form f before tally hits long p =
    fill_by_all (next_hit f) hits (length f.conditions) 0 long
    (λ j l. p.written.each j ∙ cond-true (list_any (λ x. eqb x j) (pass_order f.conditions))
    (next_hit f j) (get_or f.hits j 0) (visited f j l))
