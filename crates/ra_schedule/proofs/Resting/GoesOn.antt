-- What rests goes on to rest, and what it owes is paid by the hits before and after the frame at which the rest began.
use Rattle.std.proofs.Common.{◌≡◌, ℕ, ◌+◌, ◌≤◌, Bool, true, List, length, map, slice_index, sym, ap, ◌∙◌}
use Rattle.ra_condition.specs.Contents.{TriggerContents, PartContents, groups_of, counted_in, trigger_hits, value_hits}
use Rattle.ra_group.specs.declared.form.Form.TheVariants.{InTrigger, InValue}
use Rattle.ra_trigger.specs.Steps.{TriggerKept, step as achievement_step, hits_after_truth, truth}
use Rattle.ra_value.specs.Steps.{ValueKept, step as value_step}
use Rattle.ra_schedule.specs.Groups.{groups_keep, paid}
use Rattle.ra_schedule.specs.Triggers.{rested_achievement, rested_test, owed_trigger}
use Rattle.ra_schedule.specs.Values.{rested_value, owed_value}
use Rattle.ra_schedule.proofs.Resting.MoreRest.{more_achievement, more_test, more_value}
use Rattle.ra_schedule.proofs.Resting.OwedLaws.{achievement_owed, test_owed}
use Rattle.ra_schedule.proofs.Resting.SeenLaws.{achievement_seen, test_seen}
use Rattle.ra_schedule.proofs.Resting.TriggerRest.{achievement-rested, test-rested, truth-rested}
use Rattle.ra_schedule.proofs.Resting.ValueRest.{value-rested, value_owed, value_seen}

-- an achievement
pub achievement_goes_on : (t : TriggerContents) (truths : List Bool) (lefts : List ℕ) (old : TriggerKept)
    → length old.hits ≡ trigger_hits t → ((j : ℕ) → slice_index old.hits j ≤ 4294967295)
    → (achievement_step t truths lefts old).state ≡ old.state
    → (achievement_step t truths lefts old).measured ≡ old.measured
    → groups_keep InTrigger (groups_of t) old.hits (achievement_step t truths lefts old).hits ≡ true
    → (n : ℕ)
    → achievement_step t truths lefts (owed_trigger n old.hits (achievement_step t truths lefts old))
    ≡ owed_trigger (n + 1) old.hits (achievement_step t truths lefts old)
achievement_goes_on t truths lefts old long most state measured kept n =
    let rest = achievement_seen t truths lefts old long state measured kept in
    let again : achievement_step t truths lefts (achievement_step t truths lefts old)
    ≡ rested_achievement 1 t truths lefts (achievement_step t truths lefts old) =
    ap (achievement_step t truths lefts) rest
    ∙ achievement-rested 1 t truths lefts old rest
    ∙ sym (more_achievement 1 1 t truths lefts old)
    ∙ sym (ap (rested_achievement 1 t truths lefts) rest) in
    ap (achievement_step t truths lefts) (sym (achievement_owed n t truths lefts old long most rest))
    ∙ achievement-rested n t truths lefts (achievement_step t truths lefts old) again
    ∙ achievement_owed (n + 1) t truths lefts old long most rest

-- a trigger without states
pub test_goes_on : (t : TriggerContents) (truths : List Bool) (lefts hits : List ℕ)
    → length hits ≡ trigger_hits t → ((j : ℕ) → slice_index hits j ≤ 4294967295)
    → groups_keep InTrigger (groups_of t) hits (hits_after_truth t truths lefts hits) ≡ true
    → (n : ℕ)
    → hits_after_truth t truths lefts (paid n hits (hits_after_truth t truths lefts hits))
    ≡ paid (n + 1) hits (hits_after_truth t truths lefts hits)
test_goes_on t truths lefts hits long most kept n =
    let rest = test_seen t truths lefts hits long kept in
    let again : hits_after_truth t truths lefts (hits_after_truth t truths lefts hits)
    ≡ rested_test 1 t truths lefts (hits_after_truth t truths lefts hits) =
    ap (hits_after_truth t truths lefts) rest
    ∙ test-rested 1 t truths lefts hits rest
    ∙ sym (more_test 1 1 t truths lefts hits)
    ∙ sym (ap (rested_test 1 t truths lefts) rest) in
    ap (hits_after_truth t truths lefts) (sym (test_owed n t truths lefts hits long most rest))
    ∙ test-rested n t truths lefts (hits_after_truth t truths lefts hits) again
    ∙ test_owed (n + 1) t truths lefts hits long most rest

-- and it says what it said
pub truth_goes_on : (t : TriggerContents) (truths : List Bool) (lefts hits : List ℕ)
    → length hits ≡ trigger_hits t → ((j : ℕ) → slice_index hits j ≤ 4294967295)
    → groups_keep InTrigger (groups_of t) hits (hits_after_truth t truths lefts hits) ≡ true
    → (n : ℕ)
    → truth t truths lefts (paid n hits (hits_after_truth t truths lefts hits)) ≡ truth t truths lefts hits
truth_goes_on t truths lefts hits long most kept n =
    let rest = test_seen t truths lefts hits long kept in
    ap (truth t truths lefts) (sym (test_owed n t truths lefts hits long most rest))
    ∙ truth-rested n t truths lefts (hits_after_truth t truths lefts hits)
    ∙ ap (truth t truths lefts) rest
    ∙ truth-rested 1 t truths lefts hits

-- a value
pub value_goes_on : (parts : List PartContents) (truths : List Bool) (lefts sums : List ℕ) (old : ValueKept)
    → length old.hits ≡ value_hits parts → ((j : ℕ) → slice_index old.hits j ≤ 4294967295)
    → (value_step parts truths lefts sums old).numbers ≡ old.numbers
    → groups_keep InValue (map counted_in parts) old.hits (value_step parts truths lefts sums old).hits ≡ true
    → (n : ℕ)
    → value_step parts truths lefts sums (owed_value n old.hits (value_step parts truths lefts sums old))
    ≡ owed_value (n + 1) old.hits (value_step parts truths lefts sums old)
value_goes_on parts truths lefts sums old long most numbers kept n =
    let rest = value_seen parts truths lefts sums old long numbers kept in
    let again : value_step parts truths lefts sums (value_step parts truths lefts sums old)
    ≡ rested_value 1 parts truths lefts sums (value_step parts truths lefts sums old) =
    ap (value_step parts truths lefts sums) rest
    ∙ value-rested 1 parts truths lefts sums old rest
    ∙ sym (more_value 1 1 parts truths lefts sums old)
    ∙ sym (ap (rested_value 1 parts truths lefts sums) rest) in
    ap (value_step parts truths lefts sums) (sym (value_owed parts truths lefts sums old n long most rest))
    ∙ value-rested n parts truths lefts sums (value_step parts truths lefts sums old) again
    ∙ value_owed parts truths lefts sums old (n + 1) long most rest

-- at once nothing is owed
pub achievement_nothing : (t : TriggerContents) (truths : List Bool) (lefts : List ℕ) (old : TriggerKept)
    → length old.hits ≡ trigger_hits t → ((j : ℕ) → slice_index old.hits j ≤ 4294967295)
    → (achievement_step t truths lefts old).state ≡ old.state
    → (achievement_step t truths lefts old).measured ≡ old.measured
    → groups_keep InTrigger (groups_of t) old.hits (achievement_step t truths lefts old).hits ≡ true
    → owed_trigger 0 old.hits (achievement_step t truths lefts old) ≡ achievement_step t truths lefts old
achievement_nothing t truths lefts old long most state measured kept =
    let rest = achievement_seen t truths lefts old long state measured kept in
    sym (achievement_owed 0 t truths lefts old long most rest)
    ∙ ap (rested_achievement 0 t truths lefts) rest
    ∙ more_achievement 1 0 t truths lefts old
    ∙ sym rest

pub test_nothing : (t : TriggerContents) (truths : List Bool) (lefts hits : List ℕ)
    → length hits ≡ trigger_hits t → ((j : ℕ) → slice_index hits j ≤ 4294967295)
    → groups_keep InTrigger (groups_of t) hits (hits_after_truth t truths lefts hits) ≡ true
    → paid 0 hits (hits_after_truth t truths lefts hits) ≡ hits_after_truth t truths lefts hits
test_nothing t truths lefts hits long most kept =
    let rest = test_seen t truths lefts hits long kept in
    sym (test_owed 0 t truths lefts hits long most rest)
    ∙ ap (rested_test 0 t truths lefts) rest
    ∙ more_test 1 0 t truths lefts hits
    ∙ sym rest

pub value_nothing : (parts : List PartContents) (truths : List Bool) (lefts sums : List ℕ) (old : ValueKept)
    → length old.hits ≡ value_hits parts → ((j : ℕ) → slice_index old.hits j ≤ 4294967295)
    → (value_step parts truths lefts sums old).numbers ≡ old.numbers
    → groups_keep InValue (map counted_in parts) old.hits (value_step parts truths lefts sums old).hits ≡ true
    → owed_value 0 old.hits (value_step parts truths lefts sums old) ≡ value_step parts truths lefts sums old
value_nothing parts truths lefts sums old long most numbers kept =
    let rest = value_seen parts truths lefts sums old long numbers kept in
    sym (value_owed parts truths lefts sums old 0 long most rest)
    ∙ ap (rested_value 0 parts truths lefts sums) rest
    ∙ more_value 1 0 parts truths lefts sums old
    ∙ sym rest
