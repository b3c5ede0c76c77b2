-- What is owed of achievements, tests and values at rest.
use Rattle.std.proofs.Common.{◌≡◌, ℕ, ◌≤◌, Bool, true, false, ◌||◌, cond, List, length, slice_index, refl, sym, ap, ◌∙◌}
use Rattle.std.proofs.lemmas.Bool.{cond-true, cond-false}
use Rattle.ra_condition.specs.Contents.{TriggerContents, groups_of, trigger_hits}
use Rattle.ra_group.specs.declared.form.Form.TheVariants.{InTrigger}
use Rattle.ra_trigger.specs.States.{is_cleared, is_triggered}
use Rattle.ra_trigger.specs.Steps.{TriggerKept, Together, together, step, hits_after_truth}
use Rattle.ra_schedule.specs.Groups.{paid}
use Rattle.ra_schedule.specs.Triggers.{rested_groups, rested_achievement, rested_test, owed_trigger}
use Rattle.ra_schedule.proofs.Resting.Owed.{owed_groups, owed_none}
use Rattle.ra_schedule.proofs.Resting.TriggerRest.{together-rested}

module _ (n : ℕ) (t : TriggerContents) (truths : List Bool) (lefts : List ℕ) (old : TriggerKept)
    (long : length old.hits ≡ trigger_hits t) (most : (j : ℕ) → slice_index old.hits j ≤ 4294967295) where
  abbrev now : Together
  now = together t truths lefts old.hits

  abbrev stays : Bool
  stays = is_triggered old.state || is_cleared old.state now.reset now.valid

  abbrev with_more : TriggerKept
  with_more = record { state = old.state; measured = old.measured; hits = rested_groups 1 t truths lefts old.hits }

  abbrev with_later : TriggerKept
  with_later = record {
    state = old.state;
    measured = old.measured;
    hits = rested_groups n t truths lefts
        (rested_groups 1 t truths lefts old.hits);
  }

  -- where an achievement rested at a frame, what n frames more leave is paid by the hits before it
  pub achievement_owed : step t truths lefts old ≡ rested_achievement 1 t truths lefts old
      → rested_achievement n t truths lefts (step t truths lefts old)
      ≡ owed_trigger n old.hits (step t truths lefts old)
  achievement_owed rest = by_end stays refl
    where
      by_end : (b : Bool) → stays ≡ b
          → rested_achievement n t truths lefts (step t truths lefts old)
          ≡ owed_trigger n old.hits (step t truths lefts old)
      by_end true e =
          let same = rest ∙ cond-true stays old with_more e in
          ap (rested_achievement n t truths lefts) same
          ∙ cond-true stays old
          (record { state = old.state; measured = old.measured; hits = rested_groups n t truths lefts old.hits }) e
          ∙ ap (λ hits. record { state = old.state; measured = old.measured; hits = hits }) (sym
          (owed_none n old.hits))
          ∙ sym (ap (owed_trigger n old.hits) same)
      by_end false e =
          let more = rest ∙ cond-false stays old with_more e in
          ap (rested_achievement n t truths lefts) more
          ∙ ap (λ x. cond (is_triggered old.state || is_cleared old.state x.reset x.valid) with_more with_later)
          (together-rested 1 t truths lefts old.hits)
          ∙ cond-false stays with_more with_later e
          ∙ ap (λ hits. record { state = old.state; measured = old.measured; hits = hits }) (owed_groups InTrigger n
          (groups_of t) truths lefts old.hits long most)
          ∙ sym (ap (owed_trigger n old.hits) more)

module _ (n : ℕ) (t : TriggerContents) (truths : List Bool) (lefts hits : List ℕ) (long : length hits
    ≡ trigger_hits t) (most : (j : ℕ) → slice_index hits j ≤ 4294967295) where
  abbrev told : Together
  told = together t truths lefts hits

  -- the same of a trigger without states
  pub test_owed : hits_after_truth t truths lefts hits ≡ rested_test 1 t truths lefts hits
      → rested_test n t truths lefts (hits_after_truth t truths lefts hits)
      ≡ paid n hits (hits_after_truth t truths lefts hits)
  test_owed rest = by_reset told.reset refl
    where
      by_reset : (b : Bool) → told.reset ≡ b
          → rested_test n t truths lefts (hits_after_truth t truths lefts hits)
          ≡ paid n hits (hits_after_truth t truths lefts hits)
      by_reset true e =
          let same = rest ∙ cond-true told.reset hits (rested_groups 1 t truths lefts hits) e in
          ap (rested_test n t truths lefts) same
          ∙ cond-true told.reset hits (rested_groups n t truths lefts hits) e
          ∙ sym (owed_none n hits)
          ∙ sym (ap (paid n hits) same)
      by_reset false e =
          let more = rest ∙ cond-false told.reset hits (rested_groups 1 t truths lefts hits) e in
          ap (rested_test n t truths lefts) more
          ∙ ap (λ x. cond x.reset (rested_groups 1 t truths lefts hits)
          (rested_groups n t truths lefts (rested_groups 1 t truths lefts hits)))
          (together-rested 1 t truths lefts hits)
          ∙ cond-false told.reset (rested_groups 1 t truths lefts hits) (rested_groups n t truths lefts
          (rested_groups 1 t truths lefts hits)) e
          ∙ owed_groups InTrigger n (groups_of t) truths lefts hits long most
          ∙ sym (ap (paid n hits) more)
