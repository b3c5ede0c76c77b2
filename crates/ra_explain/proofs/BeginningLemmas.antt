-- From where the rows of an unlock begin, they go on up to the last one.
use Rattle.std.proofs.Common.{◌≡◌, ◌⊎◌, ℕ, zero, suc, ◌+◌, ◌-◌, ◌<◌, ◌≤◌, Bool, true, false, ◌&&◌, ◌||◌, cond, List, []}
use Rattle.std.proofs.Common.{replicate, refl, sym, ap, subst, ◌∙◌, inl, inr, arith}
use Rattle.std.proofs.lemmas.Bool.{true≢false, false≢true, cases_lt, eq-eqb, ne_eqb}
use Rattle.ra_condition.specs.Contents.{TriggerContents, groups_of, trigger_hits}
use Rattle.ra_trigger.specs.declared.state.State.{State}
use Rattle.ra_trigger.specs.declared.state.State.TheVariants.{Waiting, Active, Paused, Primed, Triggered}
use Rattle.ra_trigger.specs.States.{is_waiting, is_triggered, is_cleared, state_after}
use Rattle.ra_trigger.specs.Steps.{TriggerKept, Together, together, kept_after, cleared}
use Rattle.ra_explain.specs.Explains.{row_at}
use Rattle.ra_explain.specs.Replays.{said_by, hits_through, AllGoOn}
use Rattle.ra_explain.specs.Beginnings.{replayed, clears_row, begins_by, UnlocksLast}
use Rattle.ra_trigger.proofs.GroupsLemmas.{length-hits_along}

-- ---- one row

-- where the state becomes triggered the row is valid, does not reset, and the achievement did not wait
by_bools : (reset valid waits paused primed : Bool) → is_triggered (cond reset (cond paused Paused
    Active) (cond valid (cond waits Waiting Triggered) (cond paused Paused (cond primed Primed
    Active)))) ≡ true → (reset ≡ false) × (valid ≡ true) × (waits ≡ false)
by_bools true valid waits true primed is = absurd (false≢true is)
by_bools true valid waits false primed is = absurd (false≢true is)
by_bools false true true paused primed is = absurd (false≢true is)
by_bools false true false paused primed is = (refl, refl, refl)
by_bools false false waits true primed is = absurd (false≢true is)
by_bools false false waits false true is = absurd (false≢true is)
by_bools false false waits false false is = absurd (false≢true is)

-- an open state goes by the other rows of the table
opened : (state : State) (reset valid paused primed : Bool) → is_triggered state ≡ false
    → state_after state reset valid paused primed ≡ cond reset (cond paused Paused Active)
    (cond valid (cond (is_waiting state) Waiting Triggered)
    (cond paused Paused (cond primed Primed Active)))
opened state reset valid paused primed is_open =
    ap (λ b. cond b Triggered (cond reset (cond paused Paused Active) (cond valid (cond (is_waiting
    state) Waiting Triggered) (cond paused Paused (cond primed Primed Active))))) is_open

unlocked_by : (state : State) (reset valid paused primed : Bool) → is_triggered state ≡ false
    → is_triggered (state_after state reset valid paused primed) ≡ true
    → (reset ≡ false) × (valid ≡ true) × (is_waiting state ≡ false)
unlocked_by state reset valid paused primed is_open is =
    by_bools reset valid (is_waiting state) paused primed
    (sym (ap is_triggered (opened state reset valid paused primed is_open)) ∙ is)

-- a valid row that clears nothing triggers
triggers_by : (state : State) (reset valid paused primed : Bool) → is_triggered state ≡ false
    → is_cleared state reset valid ≡ false → valid ≡ true
    → is_triggered (state_after state reset valid paused primed) ≡ true
triggers_by state reset valid paused primed is_open clears is =
    ap is_triggered (opened state reset valid paused primed is_open) ∙ by_bool reset
    (is_waiting state) (sym (ap (λ v. reset || (is_waiting state && v)) is) ∙ clears) ∙ refl
  where
    by_bool : (r w : Bool) → (r || (w && true)) ≡ false
        → is_triggered (cond r (cond paused Paused Active) (cond valid (cond w Waiting Triggered)
        (cond paused Paused (cond primed Primed Active)))) ≡ true
    by_bool true w none = absurd (true≢false none)
    by_bool false true none = absurd (true≢false none)
    by_bool false false none = ap
        (λ v. is_triggered (cond v Triggered (cond paused Paused (cond primed Primed Active)))) is

-- what clears nothing does not reset
no_reset : (state : State) (reset valid : Bool) → is_cleared state reset valid ≡ false → reset ≡ false
no_reset state true valid none = absurd (true≢false none)
no_reset state false valid none = refl

-- ---- all rows

module _ (t : TriggerContents) (rows : List Bool) where
  -- what the groups say together at a row of the replay
  abbrev now_at : ℕ → Together
  now_at row = together t (row_at t rows row) [] (replayed t rows row).hits

  pub begins_within : (place : ℕ) → begins_by t rows place ≤ place
  begins_within zero = omega arith
  begins_within (suc row) = by_case (clears_row t rows row) (begins_within row)
    where
      by_case : (b : Bool) → begins_by t rows row ≤ row → cond b (suc row) (begins_by t rows row) ≤ suc row
      by_case true within = omega arith
      by_case false within = omega (arith, within)

  none_cleared : (place j : ℕ) → begins_by t rows place ≤ j → j < place → clears_row t rows j ≡ false
  none_cleared zero j from below = absurd (omega (arith, below))
  none_cleared (suc row) j from below = by_case (clears_row t rows row) (none_cleared row j) refl from
    where
      by_case : (b : Bool) → (begins_by t rows row ≤ j → j < row → clears_row t rows j ≡ false)
          → clears_row t rows row ≡ b → cond b (suc row) (begins_by t rows row) ≤ j
          → clears_row t rows j ≡ false
      by_case true before is past = absurd (omega (arith, past, below))
      by_case false before is past = elim (cases_lt j row) [
        | inl earlier ↦ before past earlier
        | inr later ↦ let here : j ≡ row = omega (arith, below, later) in ap (clears_row t rows) here ∙ is
      ]

  -- a triggered achievement stays so
  stays_triggered : (row : ℕ) → is_triggered (replayed t rows row).state ≡ true
      → is_triggered (replayed t rows (suc row)).state ≡ true
  stays_triggered row is = ap (λ b. is_triggered
      (cond b (replayed t rows row) (kept_after (replayed t rows row) (now_at row))).state) is ∙ is

  open_before : (count k : ℕ) → is_triggered (replayed t rows (k + count)).state ≡ false
      → is_triggered (replayed t rows k).state ≡ false
  open_before zero k is_open = let same : k + 0 ≡ k = omega arith in
      subst (λ n. is_triggered (replayed t rows n).state ≡ false) same is_open
  open_before (suc count) k is_open =
      let same : k + suc count ≡ suc k + count = omega arith in
      by_case (open_before count (suc k) (subst (λ n. is_triggered (replayed t rows n).state
      ≡ false) same is_open)) (is_triggered (replayed t rows k).state) refl
    where
      by_case : is_triggered (replayed t rows (suc k)).state ≡ false → (b : Bool) → is_triggered
          (replayed t rows k).state ≡ b → is_triggered (replayed t rows k).state ≡ false
      by_case next true is = absurd (true≢false (sym (stays_triggered k is) ∙ next))
      by_case next false is = is

  module _ (last : ℕ) (unlock : UnlocksLast t rows last) where
    open_at : (k : ℕ) → k ≤ last → is_triggered (replayed t rows k).state ≡ false
    open_at k within = let same : last ≡ k + (last - k) = omega (arith, within) in open_before (last
        - k) k (subst (λ n. is_triggered (replayed t rows n).state ≡ false) same unlock.before)

    stepped : (k : ℕ) → k ≤ last → replayed t rows (suc k) ≡ kept_after (replayed t rows k) (now_at k)
    stepped k within = ap (λ b. cond b (replayed t rows k)
        (kept_after (replayed t rows k) (now_at k))) (open_at k within)

    hits_next : (k : ℕ) → k ≤ last → (replayed t rows (suc k)).hits
        ≡ cond (clears_row t rows k) (cleared (now_at k).hits) (now_at k).hits
    hits_next k within = ap (λ (kept : TriggerKept). kept.hits) (stepped k within)

    state_next : (k : ℕ) → k ≤ last → (replayed t rows (suc k)).state ≡ state_after (replayed t rows
        k).state (now_at k).reset (now_at k).valid (now_at k).paused (now_at k).primed
    state_next k within = ap (λ (kept : TriggerKept). kept.state) (stepped k within)

    -- where the rows begin all hits are 0
    begins_none : (place : ℕ) → place ≤ last → (replayed t rows (begins_by t rows place)).hits
        ≡ replicate (trigger_hits t) 0
    begins_none zero within = refl
    begins_none (suc row) within = by_case (begins_none row (omega (arith, within))) (clears_row t rows row) refl
      where
        by_case : (replayed t rows (begins_by t rows row)).hits ≡ replicate (trigger_hits t) 0
            → (b : Bool) → clears_row t rows row ≡ b → (replayed t rows
            (cond b (suc row) (begins_by t rows row))).hits ≡ replicate (trigger_hits t) 0
        by_case before true is =
            hits_next row (omega (arith, within)) ∙ ap (λ b. cond b (cleared (now_at row).hits) (now_at row).hits) is
            ∙ ap (λ n. replicate n 0)
            (length-hits_along (groups_of t) (row_at t rows row) [] (replayed t rows row).hits)
        by_case before false is = before

    abbrev since : ℕ
    since = begins_by t rows last

    -- the hits from there on
    hits_on : (k : ℕ) → since + k ≤ last → (replayed t rows (since + k)).hits ≡ hits_through t rows since k
    hits_on zero within = let first : since + 0 ≡ since = omega arith in
        ap (λ n. (replayed t rows n).hits) first ∙ begins_none last (omega arith)
    hits_on (suc k) within =
        let next : since + suc k ≡ suc (since + k) = omega arith in
        let below : since + k < last = omega (arith, within) in
        ap (λ n. (replayed t rows n).hits) next ∙ hits_next (since + k) (omega (arith, below))
        ∙ ap (λ b. cond b (cleared (now_at (since + k)).hits) (now_at (since + k)).hits)
        (none_cleared last (since + k) (omega arith) below)
        ∙ ap (λ h. (said_by t rows (since + k) h).hits) (hits_on k (omega (arith, below)))

    -- before the last row nothing is valid
    invalid_at : (row : ℕ) → since ≤ row → row < last → (now_at row).valid ≡ false
    invalid_at row from below = by_case (now_at row).valid refl
      where
        by_case : (b : Bool) → (now_at row).valid ≡ b → (now_at row).valid ≡ false
        by_case false is = is
        by_case true is =
            let triggers = triggers_by (replayed t rows row).state (now_at row).reset
            (now_at row).valid (now_at row).paused (now_at row).primed
            (open_at row (omega (arith, below))) (none_cleared last row from below) is in
            absurd (true≢false (sym triggers ∙ sym (ap is_triggered
            (state_next row (omega (arith, below)))) ∙ open_at (suc row) (omega (arith, below))))

    -- the last row does not reset, is valid, and the achievement did not wait
    pub last_unlocks : ((now_at last).reset ≡ false) × ((now_at last).valid ≡ true)
        × (is_waiting (replayed t rows last).state ≡ false)
    last_unlocks =
        unlocked_by (replayed t rows last).state (now_at last).reset (now_at last).valid
        (now_at last).paused (now_at last).primed unlock.before
        (sym (ap is_triggered (state_next last (omega arith))) ∙ unlock.after)

    pub rows_go_on : AllGoOn t rows since last (last + 1)
    rows_go_on k below =
        let row = since + k in
        let within : row ≤ last = omega (arith, below) in
        let same : said_by t rows row (hits_through t rows since k) ≡ now_at row =
        ap (said_by t rows row) (sym (hits_on k within)) in
        elim (cases_lt row last) [
          | inl earlier ↦ record {
            reset = ap (λ (s : Together). s.reset) same ∙ no_reset (replayed t rows row).state
                (now_at row).reset (now_at row).valid (none_cleared last row (omega arith) earlier);
            valid = ap (λ (s : Together). s.valid) same ∙ invalid_at row (omega arith) earlier
                ∙ sym (ne_eqb row last (λ is. absurd (omega (arith, is, earlier))));
          }
          | inr past ↦ let here : row ≡ last = omega (arith, within, past) in record {
            reset = ap (λ (s : Together). s.reset) same ∙ ap (λ n. (now_at n).reset) here ∙ last_unlocks.0;
            valid = ap (λ (s : Together). s.valid) same ∙ ap (λ n. (now_at n).valid) here
                ∙ last_unlocks.1 ∙ sym (eq-eqb row last here);
          }
        ]

    -- where the achievement waited the rows begin before the last one
    pub waited_before : (waited : Bool) → waited ≡ is_waiting (replayed t rows since).state
        → (waited ≡ false) ⊎ (since < last)
    waited_before waited is = elim (cases_lt since last) [
      | inl earlier ↦ inr earlier
      | inr past ↦ let within = begins_within last in let here : since ≡ last =
          omega (arith, within, past) in
          inl (is ∙ ap (λ n. is_waiting (replayed t rows n).state) here ∙ last_unlocks.2)
    ]
