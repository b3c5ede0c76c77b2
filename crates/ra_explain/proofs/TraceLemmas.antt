-- The rows of a replay, and what an explanation says of them.
use Rattle.std.proofs.Common.{◌≡◌, ◌⊎◌, ℕ, zero, suc, ◌+◌, ◌-◌, ◌<◌, ◌≤◌, ◌==◌, Bool, true, false, not, List, []}
use Rattle.std.proofs.Common.{length, replicate, refl, sym, ap, subst, ◌∙◌, inl, inr, arith}
use Rattle.std.specs.Bool.{beq}
use Rattle.std.specs.List.{AllByRecursion}
use Rattle.std.proofs.lemmas.List.{length-replicate}
use Rattle.std.proofs.lemmas.Bool.{cases_lt, eq-eqb, false≢true, ne_eqb}
use Rattle.ra_condition.specs.Contents.{TriggerContents, groups_of, trigger_hits}
use Rattle.ra_trigger.specs.Steps.{Together, together}
use Rattle.ra_explain.specs.declared.explanation.Event.{Event}
use Rattle.ra_explain.specs.declared.replay.Replay.{Replay}
use Rattle.ra_explain.specs.declared.replay.Said.{Said}
use Rattle.ra_explain.specs.Explains.{ExplanationContents, AreRising, row_at, said_after, said_before, says_at}
use Rattle.ra_explain.specs.Explains.{Explains}
use Rattle.ra_explain.specs.Replays.{said_by, hits_through, events_through, GoesOn, AllGoOn, StepsRow, Strays}
use Rattle.ra_trigger.proofs.GroupsLemmas.{length-hits_along}
use Rattle.ra_explain.proofs.NoteLemmas.{length_noted}
use Rattle.ra_explain.proofs.FollowLemmas.{begins_with}
use Rattle.ra_explain.proofs.ColumnLemmas.{HaveNoted, said_at, all_noted, said_last, said_earlier, none_noted, all_rise}
use Rattle.ra_explain.proofs.ColumnLemmas.{all_same}

-- two truths that a test finds the same, or not
pub same_bools : (a b : Bool) → not (beq a b) ≡ false → a ≡ b
same_bools true true is = refl
same_bools true false is = absurd (false≢true (sym is))
same_bools false true is = absurd (false≢true (sym is))
same_bools false false is = refl

pub other_bools : (a b : Bool) → not (beq a b) ≡ true → a ≡ b → ⊥
other_bools true true is same = false≢true is
other_bools true false is same = false≢true (sym same)
other_bools false true is same = false≢true same
other_bools false false is same = false≢true is

module _ (t : TriggerContents) (rows : List Bool) (since : ℕ) where
  -- a hit for each condition, and its events
  pub many_hits : (count : ℕ) → length (hits_through t rows since count) ≡ trigger_hits t
  many_hits zero = length-replicate (trigger_hits t) 0
  many_hits (suc count) = length-hits_along (groups_of t) (row_at t rows (since + count)) []
      (hits_through t rows since count)

  pub many_events : (count : ℕ) → length (events_through t rows since count) ≡ trigger_hits t
  many_events zero = length-replicate {A = List Event} (trigger_hits t) []
  many_events (suc count) =
      length_noted (since + count) (events_through t rows since count)
      (hits_through t rows since count) (hits_through t rows since (suc count)) (many_hits count
      ∙ sym (many_events count)) (many_hits (suc count) ∙ sym (many_events count))
      ∙ many_events count

  -- the events below a row, and the hits there
  have_noted : (count : ℕ) → HaveNoted since (since + count) (events_through t rows since count)
      (hits_through t rows since count)
  have_noted zero = let first : since ≡ since + 0 = omega arith in
      subst (λ n. HaveNoted since n (replicate (trigger_hits t) []) (replicate (trigger_hits t) 0))
      first (none_noted since (trigger_hits t))
  have_noted (suc count) =
      let next : since + count + 1 ≡ since + suc count = omega arith in
      subst (λ n. HaveNoted since n (events_through t rows since (suc count))
      (hits_through t rows since (suc count))) next
      (all_noted since (since + count) (events_through t rows since count)
      (hits_through t rows since count) (hits_through t rows since (suc count)) (omega arith)
      (many_hits (suc count) ∙ sym (many_hits count)) (have_noted count))

  -- the events say the hits after each row
  pub say_hits : (count k : ℕ) → k < count → said_at (events_through t rows since count) (since + k)
      ≡ hits_through t rows since (suc k)
  say_hits zero k below = absurd (omega (arith, below))
  say_hits (suc count) k below = elim (cases_lt k count) [
    | inl earlier ↦
        said_earlier (since + count) (since + k) (events_through t rows since count)
        (hits_through t rows since count) (hits_through t rows since (suc count))
        (omega (arith, earlier)) (many_hits count ∙ sym (many_events count)) (many_hits (suc count)
        ∙ sym (many_events count))
        ∙ say_hits count k earlier
    | inr past ↦
        let here : k ≡ count = omega (arith, below, past) in
        ap (λ n. said_at (events_through t rows since (suc count)) (since + n)) here
        ∙ said_last since (since + suc count) (since + count) (events_through t rows since
        (suc count)) (hits_through t rows since (suc count)) (omega arith) (have_noted (suc count))
        ∙ ap (λ n. hits_through t rows since (suc n)) (sym here)
  ]

  -- a step from the hits before a row
  module _ (last row : ℕ) (slice : List Bool) (old new : Replay) (said : Said) (steps : StepsRow t slice old new said)
      (from : since ≤ row) (is : slice ≡ row_at t rows row) (hits : old.trigger.hits ≡ hits_through t rows since
      (row - since)) where
    same : together t slice [] old.trigger.hits ≡ said_by t rows (since + (row - since)) (hits_through t rows since
        (row - since))
    same = let at : row ≡ since + (row - since) = omega (arith, from) in
        (λ i. together t (is i) [] (hits i)) ∙ ap (λ n. said_by t rows n (hits_through t rows since (row - since))) at

    -- one row more goes on
    pub goes_further : said.reset ≡ false → said.valid ≡ (row == last) → AllGoOn t rows since last row
        → AllGoOn t rows since last (row + 1)
    goes_further none isl good j within = elim (cases_lt (since + j) row) [
      | inl earlier ↦ good j earlier
      | inr past ↦
          let here : row - since ≡ j = omega (arith, within, past, from) in
          let place : row ≡ since + (row - since) = omega (arith, from) in
          subst (GoesOn t rows since last) here (record {
            reset = ap (λ (s : Together). s.reset) (sym same) ∙ sym steps.reset ∙ none;
            valid = ap (λ (s : Together). s.valid) (sym same) ∙ sym steps.valid ∙ isl ∙ ap (λ n. n == last) place;
          })
    ]

    -- what is told of a row that goes on
    pub told_on : GoesOn t rows since last (row - since) → (said.reset ≡ false) × (said.valid ≡ (row == last))
    told_on goes = let place : since + (row - since) ≡ row = omega (arith, from) in (
      steps.reset ∙ ap (λ (s : Together). s.reset) same ∙ goes.reset,
      steps.valid ∙ ap (λ (s : Together). s.valid) same ∙ goes.valid ∙ ap (λ n. n == last) place,
    )

    -- the hits after it
    pub hits_further : said.reset ≡ false → new.trigger.hits ≡ hits_through t rows since (suc (row - since))
    hits_further none = steps.hits none ∙ ap (λ (s : Together). s.hits) same

module _ (t : TriggerContents) (rows : List Bool) (e : ExplanationContents)
    (upto : e.since ≤ e.last) (many : length e.events ≡ trigger_hits t) where
  abbrev count : ℕ
  count = e.last + 1 - e.since

  -- the events of the trace explain the rows
  module _ (good : AllGoOn t rows e.since e.last (e.last + 1)) (is : e.events
      ≡ events_through t rows e.since count) where
    after_is : (k : ℕ) → e.since + k ≤ e.last → said_after e (e.since + k) ≡ hits_through t rows e.since (suc k)
    after_is k within = ap (λ es. said_at es (e.since + k)) is ∙ say_hits t rows e.since count k (omega (arith, within))

    rising : AllByRecursion (AreRising e.since e.last 0) e.events
    rising =
        let bound : e.since + count ≡ e.last + 1 = omega (arith, upto) in
        subst (AllByRecursion (AreRising e.since e.last 0)) (sym is)
        (all_rise e.since e.last (events_through t rows e.since count) (hits_through t rows e.since
        count) (subst (λ n. HaveNoted e.since n (events_through t rows e.since count) (hits_through
        t rows e.since count)) bound (have_noted t rows e.since count)))

    before_is : (k : ℕ) → e.since + k ≤ e.last → said_before e (e.since + k) ≡ hits_through t rows e.since k
    before_is zero within = let first : e.since + 0 ≡ e.since = omega arith in
        ap (said_before e) first ∙ begins_with e e.since rising ∙ ap (λ n. replicate n 0) many
    before_is (suc k) within = let next : e.since + suc k ≡ suc (e.since + k) = omega arith in
        ap (said_before e) next ∙ after_is k (omega (arith, within))

    says_is : (k : ℕ) → e.since + k ≤ e.last → says_at t rows e (e.since + k)
        ≡ said_by t rows (e.since + k) (hits_through t rows e.since k)
    says_is k within = ap (said_by t rows (e.since + k)) (before_is k within)

    pub explained : (e.waited ≡ false) ⊎ (e.since < e.last) → Explains t rows e
    explained waited = record {
      rising = rising;
      counts = λ row from below. let k : e.since + (row - e.since) ≡ row = omega (arith, from) in
          subst (λ n. said_after e n ≡ (says_at t rows e n).hits) k (let within : e.since
          + (row - e.since) ≤ e.last = omega (arith, from, below) in after_is (row - e.since) within
          ∙ sym (ap (λ (s : Together). s.hits) (says_is (row - e.since) within)));
      resets = λ row from below. let k : e.since + (row - e.since) ≡ row = omega (arith, from) in
          subst (λ n. (says_at t rows e n).reset ≡ false) k (let within : e.since + (row - e.since)
          ≤ e.last = omega (arith, from, below) in ap (λ (s : Together). s.reset) (says_is
          (row - e.since) within) ∙ (good (row - e.since) (omega (arith, within))).reset);
      valid = let k : e.since + (e.last - e.since) ≡ e.last = omega (arith, upto) in
          subst (λ n. (says_at t rows e n).valid ≡ true) k
          (let within : e.since + (e.last - e.since) ≤ e.last = omega (arith, upto) in
          ap (λ (s : Together). s.valid) (says_is (e.last - e.since) within) ∙ (good (e.last -
          e.since) (omega (arith, within))).valid ∙ eq-eqb (e.since + (e.last - e.since)) e.last k);
      earlier = λ row from below. let k : e.since + (row - e.since) ≡ row = omega (arith, from) in
          subst (λ n. (says_at t rows e n).valid ≡ false) k
          (let within : e.since + (row - e.since) ≤ e.last = omega (arith, from, below) in
          ap (λ (s : Together). s.valid) (says_is (row - e.since) within)
          ∙ (good (row - e.since) (omega (arith, within))).valid ∙ ne_eqb
          (e.since + (row - e.since)) e.last (λ same. absurd (omega (arith, same, k, below))));
      waited = waited;
    }

  -- explained rows go on, and the events are those of the trace
  module _ (x : Explains t rows e) where
    known : (k : ℕ) → e.since + k ≤ e.last → said_before e (e.since + k) ≡ hits_through t rows e.since k
    known zero within = let first : e.since + 0 ≡ e.since = omega arith in
        ap (said_before e) first ∙ begins_with e e.since x.rising ∙ ap (λ n. replicate n 0) many
    known (suc k) within =
        let next : e.since + suc k ≡ suc (e.since + k) = omega arith in
        ap (said_before e) next ∙ x.counts (e.since + k) (omega arith) (omega (arith, within))
        ∙ ap (λ h. (said_by t rows (e.since + k) h).hits) (known k (omega (arith, within)))

    pub goes_on : AllGoOn t rows e.since e.last (e.last + 1)
    goes_on k below =
        let within : e.since + k ≤ e.last = omega (arith, below) in
        let same : says_at t rows e (e.since + k) ≡ said_by t rows (e.since + k)
        (hits_through t rows e.since k) = ap (said_by t rows (e.since + k)) (known k within) in
        record {
          reset = ap (λ (s : Together). s.reset) (sym same) ∙ x.resets (e.since + k) (omega arith) within;
          valid = ap (λ (s : Together). s.valid) (sym same) ∙ valid_at (e.since + k) (omega arith) within;
        }
      where
        valid_at : (row : ℕ) → e.since ≤ row → row ≤ e.last → (says_at t rows e row).valid ≡ (row == e.last)
        valid_at row from below = elim (cases_lt row e.last) [
          | inl earlier ↦ x.earlier row from earlier
              ∙ sym (ne_eqb row e.last (λ same. absurd (omega (arith, same, earlier))))
          | inr past ↦ let last : row ≡ e.last = omega (arith, past, below) in
              ap (λ r. (says_at t rows e r).valid) last ∙ x.valid ∙ sym (eq-eqb row e.last last)
        ]

    pub are_traced : e.events ≡ events_through t rows e.since count
    are_traced =
        let bound : e.since + count ≡ e.last + 1 = omega (arith, upto) in
        all_same e.events (events_through t rows e.since count) e.since e.last (many
        ∙ sym (many_events t rows e.since count)) x.rising
        (all_rise e.since e.last (events_through t rows e.since count) (hits_through t rows e.since
        count) (subst (λ n. HaveNoted e.since n (events_through t rows e.since count) (hits_through
        t rows e.since count)) bound (have_noted t rows e.since count)))
        (λ r from below.
        let k : e.since + (r - e.since) ≡ r = omega (arith, from) in
        let within : e.since + (r - e.since) ≤ e.last = omega (arith, k, below) in
        x.counts r from below ∙ subst (λ n. (says_at t rows e n).hits
        ≡ (said_by t rows n (hits_through t rows e.since (r - e.since))).hits) k
        (ap (λ h. (said_by t rows (e.since + (r - e.since)) h).hits) (known (r - e.since) within))
        ∙ ap (λ n. (said_by t rows n (hits_through t rows e.since (r - e.since))).hits) (sym k)
        ∙ sym (say_hits t rows e.since count (r - e.since) (omega (arith, k, below, from)))
        ∙ ap (said_at (events_through t rows e.since count)) k)

    pub never_strays : Strays t rows e.since e.last → ⊥
    never_strays stray = stray.2 (goes_on stray.0 (omega (arith, stray.1)))
