-- From an explanation the unlock follows.
use Rattle.std.proofs.Common.{◌≡◌, ◌⊎◌, ℕ, zero, suc, ◌+◌, ◌<◌, ◌≤◌, ◌==◌, Bool, true, false, ◌&&◌, ◌||◌, cond, List}
use Rattle.std.proofs.Common.{[], ◌∷◌, length, map, replicate, refl, sym, ap, ap₂, subst, ◌∙◌, inl, inr, arith}
use Rattle.std.specs.List.{AllByRecursion}
use Rattle.std.proofs.lemmas.Bool.{true≢false, lt-leb, cases_lt, eq-eqb, eqb-true, ne_eqb, and_right}
use Rattle.ra_condition.specs.Contents.{TriggerContents}
use Rattle.ra_trigger.specs.declared.state.State.{State}
use Rattle.ra_trigger.specs.declared.state.State.TheVariants.{Waiting, Active, Paused, Primed, Triggered}
use Rattle.ra_trigger.specs.States.{is_waiting, is_triggered, state_after}
use Rattle.ra_trigger.specs.Steps.{TriggerKept, Together, together, step, kept_after, cleared}
use Rattle.ra_explain.specs.declared.explanation.Event.{Event}
use Rattle.ra_explain.specs.Explains.{ExplanationContents, AreRising, said_from, said_after, said_before, row_at}
use Rattle.ra_explain.specs.Explains.{says_at, Explains, kept_through, BeginsIn, clears_at, PassesRow, UnlockFollows}
use Rattle.ra_explain.proofs.LeftLemmas.{together_reset, together_valid, together_hits}

-- ---- before the first row no hits are said

pub none_said : (own : List Event) (hits before from last row : ℕ) → AreRising from last before own
    → row < from → said_from hits own row ≡ hits
none_said [] hits before from last row rising below = refl
none_said (e ∷ es) hits before from last row rising below =
    ap (λ b. cond b (said_from e.hits es row) (said_from hits es row))
    (lt-leb e.row row (omega (arith, rising.0, below)))
    ∙ none_said es hits e.hits (e.row + 1) last row rising.3 (omega (arith, rising.0, below))

all_none : (events : List (List Event)) (from last row : ℕ) → AllByRecursion (AreRising from last 0)
    events → row < from → map (λ own. said_from 0 own row) events ≡ replicate (length events) 0
all_none [] from last row rising below = refl
all_none (own ∷ events) from last row rising below = ap₂ (λ n ns. n ∷ ns)
    (none_said own 0 0 from last row rising.0 below) (all_none events from last row rising.1 below)

pub begins_with : (e : ExplanationContents) (since : ℕ) → AllByRecursion
    (AreRising since e.last 0) e.events → said_before e since ≡ replicate (length e.events) 0
begins_with e zero rising = refl
begins_with e (suc row) rising = all_none e.events (suc row) e.last row rising (omega arith)

-- ---- one row

-- a state is open where it is not triggered, and at the last row it does not wait
pub record IsOpen (last row : ℕ) (state : State) : Type 0 where
  pub untriggered : is_triggered state ≡ false
  pub ready : row ≡ last → is_waiting state ≡ false

module _ (t : TriggerContents) (rows : List Bool) (e : ExplanationContents) (x : Explains t rows e)
    (lefts : List ℕ) (old : TriggerKept) (row : ℕ) (from : e.since ≤ row) (upto : row ≤ e.last)
    (hits : old.hits ≡ said_before e row) (is_open : IsOpen e.last row old.state) where
  abbrev now : Together
  now = together t (row_at t rows row) lefts old.hits

  now_reset : now.reset ≡ false
  now_reset = together_reset t (row_at t rows row) lefts [] old.hits
      ∙ ap (λ h. (together t (row_at t rows row) [] h).reset) hits ∙ x.resets row from upto

  now_hits : now.hits ≡ said_after e row
  now_hits = together_hits t (row_at t rows row) lefts [] old.hits
      ∙ ap (λ h. (together t (row_at t rows row) [] h).hits) hits ∙ sym (x.counts row from upto)

  now_valid : now.valid ≡ (says_at t rows e row).valid
  now_valid = together_valid t (row_at t rows row) lefts [] old.hits
      ∙ ap (λ h. (together t (row_at t rows row) [] h).valid) hits

  valid_is : now.valid ≡ (row == e.last)
  valid_is = elim (cases_lt row e.last) [
    | inl below ↦ now_valid ∙ x.earlier row from below
        ∙ sym (ne_eqb row e.last (λ same. absurd (omega (arith, same, below))))
    | inr past ↦ let last : row ≡ e.last = omega (arith, past, upto) in now_valid
        ∙ ap (λ r. (says_at t rows e r).valid) last ∙ x.valid ∙ sym (eq-eqb row e.last last)
  ]

  clears_none : clears_at t (row_at t rows row) lefts old ≡ false
  clears_none = ap₂ (λ r v. r || (is_waiting old.state && v)) now_reset valid_is ∙ by_last (row == e.last) refl
    where
      by_last : (b : Bool) → (row == e.last) ≡ b → (is_waiting old.state && b) ≡ false
      by_last true is = ap (λ w. w && true) (is_open.ready (eqb-true row e.last is))
      by_last false is = and_right (is_waiting old.state) false refl

  stepped : step t (row_at t rows row) lefts old ≡ kept_after old now
  stepped = ap (λ b. cond b old (kept_after old now)) is_open.untriggered

  hits_after : (step t (row_at t rows row) lefts old).hits ≡ said_after e row
  hits_after = ap (λ k. k.hits) stepped ∙ ap (λ b. cond b (cleared now.hits) now.hits) clears_none ∙ now_hits

  state_is : (step t (row_at t rows row) lefts old).state
      ≡ state_after old.state false (row == e.last) now.paused now.primed
  state_is = ap (λ k. k.state) stepped ∙ ap₂ (λ r v. state_after old.state r v now.paused now.primed) now_reset valid_is

  -- an open state that is not reset
  opened : (valid paused primed : Bool) → state_after old.state false valid paused primed
      ≡ cond valid (cond (is_waiting old.state) Waiting Triggered)
      (cond paused Paused (cond primed Primed Active))
  opened valid paused primed = ap (λ b. cond b Triggered (cond valid (cond (is_waiting old.state)
      Waiting Triggered) (cond paused Paused (cond primed Primed Active)))) is_open.untriggered

  pub goes_on : (row == e.last) ≡ false → (is_triggered (step t (row_at t rows row) lefts old).state
      ≡ false) × (is_waiting (step t (row_at t rows row) lefts old).state ≡ false)
  goes_on other = subst (λ s. (is_triggered s ≡ false) × (is_waiting s ≡ false))
      (sym (state_is ∙ ap (λ v. state_after old.state false v now.paused now.primed) other
      ∙ opened false now.paused now.primed)) (by_cases now.paused now.primed)
    where
      by_cases : (paused primed : Bool) → (is_triggered (cond paused Paused (cond primed Primed
          Active)) ≡ false) × (is_waiting (cond paused Paused (cond primed Primed Active)) ≡ false)
      by_cases true primed = (refl, refl)
      by_cases false true = (refl, refl)
      by_cases false false = (refl, refl)

  pub passes : PassesRow t (row_at t rows row) lefts old (said_after e row) (row == e.last)
  passes = record {
    clears = clears_none;
    hits_too = hits_after;
    before = is_open.untriggered;
    after = by_last (row == e.last) refl;
  }
    where
      by_last : (b : Bool) → (row == e.last) ≡ b
          → is_triggered (step t (row_at t rows row) lefts old).state ≡ (row == e.last)
      by_last true is =
          ap is_triggered (state_is ∙ ap (λ v. state_after old.state false v now.paused now.primed)
          is ∙ opened true now.paused now.primed
          ∙ ap (λ w. cond w Waiting Triggered) (is_open.ready (eqb-true row e.last is)))
          ∙ sym is
      by_last false is = (goes_on is).0 ∙ sym is

-- ---- all rows

module _ (t : TriggerContents) (rows : List Bool) (e : ExplanationContents) (x : Explains t rows e)
    (lefts : ℕ → List ℕ) (kept : TriggerKept) (none : kept.hits ≡ replicate (length e.events) 0)
    (begins : BeginsIn e.waited kept.state) where
  -- how an achievement stands before a row
  pub record Stands (count : ℕ) : Type 0 where
    pub hits : (kept_through t rows lefts kept e.since count).hits ≡ said_before e (e.since + count)
    pub is_open : IsOpen e.last (e.since + count) (kept_through t rows lefts kept e.since count).state

  first_open : (waited : Bool) → e.waited ≡ waited → BeginsIn waited kept.state → IsOpen e.last (e.since + 0) kept.state
  first_open true w is = record {
    untriggered = ap is_triggered is;
    ready = λ last. absurd (by_waited x.waited last);
  }
    where
      by_waited : (e.waited ≡ false) ⊎ (e.since < e.last) → e.since + 0 ≡ e.last → ⊥
      by_waited (inl no_wait) last = true≢false (sym w ∙ no_wait)
      by_waited (inr below) last = omega (arith, below, last)
  first_open false w is = record { untriggered = is.1; ready = λ last. is.0 }

  stands : (count : ℕ) → e.since + count ≤ e.last → Stands count
  stands zero few = let here : e.since ≡ e.since + 0 = omega arith in record {
    hits = none ∙ sym (begins_with e e.since x.rising) ∙ ap (said_before e) here;
    is_open = first_open e.waited refl begins;
  }
  stands (suc count) few =
      let before = stands count (omega (arith, few)) in
      let old = kept_through t rows lefts kept e.since count in
      let row = e.since + count in
      let below : row < e.last = omega (arith, few) in
      let next : suc row ≡ e.since + suc count = omega arith in
      let more = goes_on t rows e x (lefts row) old row (omega arith)
      (omega (arith, below)) before.hits before.is_open
      (ne_eqb row e.last (λ same. absurd (omega (arith, same, below)))) in
      record {
        hits = (passes t rows e x (lefts row) old row (omega arith)
            (omega (arith, below)) before.hits before.is_open).hits_too ∙ ap (said_before e) next;
        is_open = record { untriggered = more.0; ready = λ last. more.1 };
      }

-- the unlock follows
pub unlock_follows : (t : TriggerContents) (rows : List Bool) (e : ExplanationContents)
    → Explains t rows e → UnlockFollows t rows e
unlock_follows t rows e x lefts kept none begins count few =
    let before = stands t rows e x lefts kept none begins count few in
    passes t rows e x (lefts (e.since + count)) (kept_through t rows lefts kept e.since count)
    (e.since + count) (omega arith) few before.hits before.is_open
