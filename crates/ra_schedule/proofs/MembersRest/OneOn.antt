-- One test or value that rests, by what it keeps after the frame at which the rest began.
use Rattle.std.proofs.Common.{◌≡◌, ℕ, ◌+◌, Bool, true, List, length, map, sym, subst}
use Rattle.ra_condition.specs.Contents.{TriggerContents, groups_of, trigger_hits, PartContents, counted_in, value_hits}
use Rattle.ra_group.specs.declared.form.Form.TheVariants.{InTrigger, InValue}
use Rattle.ra_trigger.specs.Steps.{TriggerKept, step as achievement_step, hits_after_truth, truth}
use Rattle.ra_value.specs.Steps.{ValueKept, step as value_step}
use Rattle.ra_schedule.specs.Groups.{groups_keep, paid}
use Rattle.ra_schedule.specs.Triggers.{owed_trigger}
use Rattle.ra_schedule.specs.Values.{owed_value}
use Rattle.ra_schedule.specs.Owing.{AreSmall}
use Rattle.ra_schedule.proofs.Resting.GoesOn.{achievement_goes_on as achievement_on, test_goes_on as test_on}
use Rattle.ra_schedule.proofs.Resting.GoesOn.{truth_goes_on as truth_on, value_goes_on as value_on, achievement_nothing}
use Rattle.ra_schedule.proofs.Resting.GoesOn.{test_nothing, value_nothing}

-- a trigger without states
module _ (t : TriggerContents) (truths : List Bool) (lefts old new : List ℕ) where
  abbrev stepped : List ℕ
  stepped = hits_after_truth t truths lefts old

  module _ (long : length old ≡ trigger_hits t) (small : AreSmall old) (is : new ≡ stepped)
      (keep : groups_keep InTrigger (groups_of t) old new ≡ true) where
    kept : groups_keep InTrigger (groups_of t) old stepped ≡ true
    kept = subst (λ x. groups_keep InTrigger (groups_of t) old x ≡ true) is keep

    pub test_goes_on : (n : ℕ) → hits_after_truth t truths lefts (paid n old new) ≡ paid (n + 1) old new
    test_goes_on n =
        subst (λ x. hits_after_truth t truths lefts (paid n old x) ≡ paid (n + 1) old x) (sym is)
        (test_on t truths lefts old long small kept n)

    pub test_says_on : (n : ℕ) → truth t truths lefts (paid n old new) ≡ truth t truths lefts old
    test_says_on n =
        subst (λ x. truth t truths lefts (paid n old x) ≡ truth t truths lefts old) (sym is)
        (truth_on t truths lefts old long small kept n)

    pub test_owes_nothing : paid 0 old new ≡ new
    test_owes_nothing = subst (λ x. paid 0 old x ≡ x) (sym is) (test_nothing t truths lefts old long small kept)

-- an achievement
module _ (t : TriggerContents) (truths : List Bool) (lefts : List ℕ) (old new : TriggerKept) where
  abbrev achieved : TriggerKept
  achieved = achievement_step t truths lefts old

  module _ (long : length old.hits ≡ trigger_hits t) (small : AreSmall old.hits) (is : new
      ≡ achieved) (state : new.state ≡ old.state) (measured : new.measured ≡ old.measured)
      (keep : groups_keep InTrigger (groups_of t) old.hits new.hits ≡ true) where
    same_state : achieved.state ≡ old.state
    same_state = subst (λ (k : TriggerKept). k.state ≡ old.state) is state

    same_measured : achieved.measured ≡ old.measured
    same_measured = subst (λ (k : TriggerKept). k.measured ≡ old.measured) is measured

    kept_hits : groups_keep InTrigger (groups_of t) old.hits achieved.hits ≡ true
    kept_hits = subst (λ (k : TriggerKept). groups_keep InTrigger (groups_of t) old.hits k.hits ≡ true) is keep

    pub achievement_goes_on : (n : ℕ) → achievement_step t truths lefts
        (owed_trigger n old.hits new) ≡ owed_trigger (n + 1) old.hits new
    achievement_goes_on n =
        subst (λ (k : TriggerKept). achievement_step t truths lefts (owed_trigger n old.hits k)
        ≡ owed_trigger (n + 1) old.hits k) (sym is)
        (achievement_on t truths lefts old long small same_state same_measured kept_hits n)

    pub achievement_owes_nothing : owed_trigger 0 old.hits new ≡ new
    achievement_owes_nothing =
        subst (λ (k : TriggerKept). owed_trigger 0 old.hits k ≡ k) (sym is)
        (achievement_nothing t truths lefts old long small same_state same_measured kept_hits)

-- a value
module _ (parts : List PartContents) (truths : List Bool) (lefts sums : List ℕ) (old new : ValueKept) where
  abbrev valued : ValueKept
  valued = value_step parts truths lefts sums old

  module _ (long : length old.hits ≡ value_hits parts) (small : AreSmall old.hits) (is : new
      ≡ valued) (numbers : new.numbers ≡ old.numbers)
      (keep : groups_keep InValue (map counted_in parts) old.hits new.hits ≡ true) where
    same_numbers : valued.numbers ≡ old.numbers
    same_numbers = subst (λ (k : ValueKept). k.numbers ≡ old.numbers) is numbers

    kept_by_parts : groups_keep InValue (map counted_in parts) old.hits valued.hits ≡ true
    kept_by_parts = subst (λ (k : ValueKept). groups_keep InValue (map counted_in parts) old.hits k.hits ≡ true) is keep

    pub value_goes_on : (n : ℕ) → value_step parts truths lefts sums (owed_value n old.hits new)
        ≡ owed_value (n + 1) old.hits new
    value_goes_on n =
        subst (λ (k : ValueKept). value_step parts truths lefts sums (owed_value n old.hits k)
        ≡ owed_value (n + 1) old.hits k) (sym is)
        (value_on parts truths lefts sums old long small same_numbers kept_by_parts n)

    pub value_owes_nothing : owed_value 0 old.hits new ≡ new
    value_owes_nothing =
        subst (λ (k : ValueKept). owed_value 0 old.hits k ≡ k) (sym is)
        (value_nothing parts truths lefts sums old long small same_numbers kept_by_parts)
