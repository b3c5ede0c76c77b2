-- Achievements and tests at rest.
use Rattle.std.proofs.Common.{◌≡◌, ℕ, ◌+◌, Bool, true, false, ◌&&◌, ◌||◌, not, cond, List, map, refl, sym, ap, ◌∙◌}
use Rattle.std.specs.List.{flat_map, list_any}
use Rattle.std.proofs.lemmas.Bool.{false≢true, cond-true, cond-false}
use Rattle.ra_condition.specs.Contents.{TriggerContents, groups_of}
use Rattle.ra_group.specs.declared.outcome.Outcome.{Outcome}
use Rattle.ra_group.specs.declared.form.Form.TheVariants.{InTrigger}
use Rattle.ra_group.specs.Equations.{Frame}
use Rattle.ra_group.specs.Outcome.{outcome_of, next_hits}
use Rattle.ra_trigger.specs.declared.state.State.{State}
use Rattle.ra_trigger.specs.States.{is_cleared, is_triggered}
use Rattle.ra_trigger.specs.Steps.{TriggerKept, Together, frames_along, core_and_some, core_or_all, greatest_of}
use Rattle.ra_trigger.specs.Steps.{has_trigger, together, cleared, kept_after, step, truth, hits_after_truth}
use Rattle.ra_schedule.specs.Triggers.{rested_groups, rested_achievement, rested_test}
use Rattle.ra_schedule.proofs.Resting.AlongRest.{frames-rested, outcomes-rested, hits-rested}

-- what groups say together, by what each says and by the hits
abbrev saying : TriggerContents → List Outcome → List ℕ → Together
saying t outcomes hits =
    let reset = list_any (λ o. o.reset) outcomes in
    record {
      reset = reset;
      valid = not reset && core_and_some (λ o. o.valid) outcomes;
      paused = core_or_all (λ o. o.paused) outcomes;
      primed = not reset && (has_trigger (groups_of t) && core_and_some (λ o. o.primed) outcomes);
      from_hits = list_any (λ o. o.from_hits) outcomes;
      measured = greatest_of outcomes;
      hits = hits;
    }

module _ (n : ℕ) (t : TriggerContents) (truths : List Bool) (lefts hits : List ℕ) where
  abbrev fs : List Frame
  fs = frames_along (groups_of t) truths lefts hits

  abbrev now : Together
  now = together t truths lefts hits

  -- what the groups say after n frames at rest, but for the hits
  pub together-rested : together t truths lefts (rested_groups n t truths lefts hits)
      ≡ saying t (map (outcome_of InTrigger) fs) (flat_map next_hits
      (frames_along (groups_of t) truths lefts (rested_groups n t truths lefts hits)))
  together-rested =
      ap (λ os. saying t os
      (flat_map next_hits (frames_along (groups_of t) truths lefts (rested_groups n t truths lefts hits))))
      (ap (map (outcome_of InTrigger))
      (frames-rested InTrigger n (groups_of t) truths lefts hits) ∙ outcomes-rested InTrigger n fs)

  -- and the hits after one frame more
  pub hits_more : now.hits ≡ rested_groups 1 t truths lefts hits
      → flat_map next_hits (frames_along (groups_of t) truths lefts (rested_groups n t truths lefts hits))
      ≡ rested_groups (n + 1) t truths lefts hits
  hits_more rest =
      ap (flat_map next_hits) (frames-rested InTrigger n (groups_of t) truths lefts hits)
      ∙ hits-rested InTrigger n fs rest

  pub together_more : now.hits ≡ rested_groups 1 t truths lefts hits
      → together t truths lefts (rested_groups n t truths lefts hits)
      ≡ saying t (map (outcome_of InTrigger) fs) (rested_groups (n + 1) t truths lefts hits)
  together_more rest = together-rested ∙ ap (saying t (map (outcome_of InTrigger) fs)) (hits_more rest)

module _ (n : ℕ) (t : TriggerContents) (truths : List Bool) (lefts hits : List ℕ) where
  abbrev told : Together
  told = together t truths lefts hits

  abbrev counted : ℕ → List ℕ
  counted k = rested_groups k t truths lefts hits

  -- a test that rests goes on to rest
  pub test-rested : hits_after_truth t truths lefts hits ≡ rested_test 1 t truths lefts hits
      → hits_after_truth t truths lefts (rested_test n t truths lefts hits) ≡ rested_test (n + 1) t truths lefts hits
  test-rested rest = by_reset told.reset refl
    where
      by_reset : (b : Bool) → told.reset ≡ b
          → hits_after_truth t truths lefts (rested_test n t truths lefts hits)
          ≡ rested_test (n + 1) t truths lefts hits
      by_reset true e =
          ap (hits_after_truth t truths lefts) (cond-true told.reset hits (counted n) e)
          ∙ rest
          ∙ cond-true told.reset hits (counted 1) e
          ∙ sym (cond-true told.reset hits (counted (n + 1)) e)
      by_reset false e =
          let stays = sym (cond-false told.reset (cleared told.hits) told.hits e) ∙ rest
          ∙ cond-false told.reset hits (counted 1) e in
          ap (hits_after_truth t truths lefts) (cond-false told.reset hits (counted n) e)
          ∙ ap (λ x. cond x.reset (cleared x.hits) x.hits) (together_more n t truths lefts hits stays)
          ∙ cond-false told.reset (cleared (counted (n + 1))) (counted (n + 1)) e
          ∙ sym (cond-false told.reset hits (counted (n + 1)) e)

  -- and says what it said
  pub truth-rested : truth t truths lefts (rested_test n t truths lefts hits) ≡ truth t truths lefts hits
  truth-rested = by_reset told.reset refl
    where
      by_reset : (b : Bool) → told.reset ≡ b
          → truth t truths lefts (rested_test n t truths lefts hits) ≡ truth t truths lefts hits
      by_reset true e = ap (truth t truths lefts) (cond-true told.reset hits (counted n) e)
      by_reset false e =
          ap (truth t truths lefts) (cond-false told.reset hits (counted n) e)
          ∙ ap (λ x. x.valid) (together-rested n t truths lefts hits)

pub same_kept : {state state' : State} {measured measured' : ℕ} {hits hits' : List ℕ} → state ≡ state'
    → measured ≡ measured' → hits ≡ hits'
    → ◌≡◌ {A = TriggerKept} (record { state = state; measured = measured; hits = hits })
    (record { state = state'; measured = measured'; hits = hits' })
same_kept p q r = cc

pub left_false : (a b : Bool) → (a || b) ≡ false → a ≡ false
left_false false b e = refl
left_false true b e = absurd (false≢true (sym e))

pub right_false : (a b : Bool) → (a || b) ≡ false → b ≡ false
right_false false b e = e
right_false true b e = absurd (false≢true (sym e))

module _ (n : ℕ) (t : TriggerContents) (truths : List Bool) (lefts : List ℕ) (old : TriggerKept) where
  abbrev said : Together
  said = together t truths lefts old.hits

  abbrev clear : Bool
  clear = is_cleared old.state said.reset said.valid

  abbrev with_more : ℕ → TriggerKept
  with_more k = record { state = old.state; measured = old.measured; hits = rested_groups k t truths lefts old.hits }

  -- an achievement that rests goes on to rest
  pub achievement-rested : step t truths lefts old ≡ rested_achievement 1 t truths lefts old
      → step t truths lefts (rested_achievement n t truths lefts old) ≡ rested_achievement (n + 1) t truths lefts old
  achievement-rested rest = by_end (is_triggered old.state || clear) refl
    where
      by_end : (b : Bool) → (is_triggered old.state || clear) ≡ b
          → step t truths lefts (rested_achievement n t truths lefts old)
          ≡ rested_achievement (n + 1) t truths lefts old
      by_end true e =
          ap (step t truths lefts) (cond-true (is_triggered old.state || clear) old (with_more n) e)
          ∙ rest
          ∙ cond-true (is_triggered old.state || clear) old (with_more 1) e
          ∙ sym (cond-true (is_triggered old.state || clear) old (with_more (n + 1)) e)
      by_end false e =
          let waits = left_false (is_triggered old.state) clear e in
          let keeps = right_false (is_triggered old.state) clear e in
          let stays = sym (cond-false (is_triggered old.state) old (kept_after old said) waits) ∙ rest
          ∙ cond-false (is_triggered old.state || clear) old (with_more 1) e in
          let hits = sym (cond-false clear (cleared said.hits) said.hits keeps) ∙ ap (λ k. k.hits) stays in
          ap (step t truths lefts) (cond-false (is_triggered old.state || clear) old (with_more n) e)
          ∙ cond-false (is_triggered old.state) (with_more n) (kept_after (with_more n)
          (together t truths lefts (rested_groups n t truths lefts old.hits))) waits
          ∙ ap (kept_after (with_more n)) (together_more n t truths lefts old.hits hits)
          ∙ same_kept (ap (λ k. k.state) stays) (ap (λ k. k.measured) stays) (cond-false clear
          (cleared (rested_groups (n + 1) t truths lefts old.hits)) (rested_groups
          (n + 1) t truths lefts old.hits) keeps)
          ∙ sym (cond-false (is_triggered old.state || clear) old (with_more (n + 1)) e)
