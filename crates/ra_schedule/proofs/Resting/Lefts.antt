-- What a group says and keeps hangs on no left value but those that measured conditions give as their numbers.
use Rattle.std.proofs.Common.{◌≡◌, ℕ, zero, suc, min, Bool, true, false, if◌then◌else◌, not, ◌&&◌, ◌||◌, ◌==◌, Option}
use Rattle.std.proofs.Common.{None, Some, unwrap_or, List, [], ◌∷◌, ◌++◌, length, map, replicate, take, drop}
use Rattle.std.proofs.Common.{slice_index, slice_index_or, refl, sym, ap, ap₂, ◌∙◌}
use Rattle.std.specs.List.{flat_map, list_any, list_all}
use Rattle.ra_condition.specs.declared.flag.Flag.{Flag}
use Rattle.ra_condition.specs.declared.condition.Condition.{Condition}
use Rattle.ra_condition.specs.Flags.{hands_on, is_pause, is_reset, is_measured, is_measured_if, is_wanted, is_required}
use Rattle.ra_condition.specs.Contents.{Grouped, Legacy, PartContents, TriggerContents, condition_at, counted_in}
use Rattle.ra_condition.specs.Contents.{groups_of}
use Rattle.ra_condition.specs.Chains.{in_pause_chain, places}
use Rattle.ra_group.specs.declared.form.Form.{Form}
use Rattle.ra_group.specs.declared.form.Form.TheVariants.{InTrigger, InValue}
use Rattle.ra_group.specs.declared.outcome.Outcome.{Outcome}
use Rattle.ra_group.specs.declared.settled.Settled.{Settled}
use Rattle.ra_group.specs.Equations.{Frame, frame_of, prev_of, seen_after, settled, settled_at}
use Rattle.ra_group.specs.Outcome.{all_valid, from_total, greatest, larger, next_hits, number_of, offer, option_if}
use Rattle.ra_group.specs.Outcome.{outcome_of, some_valid}
use Rattle.ra_trigger.specs.States.{is_triggered}
use Rattle.ra_trigger.specs.Steps.{Together, TriggerKept, cleared, core_and_some, core_or_all, frames_along}
use Rattle.ra_trigger.specs.Steps.{greatest_of, has_trigger, hits_after_truth, kept_after, step, together, truth}
use Rattle.ra_value.specs.Steps.{PartStep, ValueKept, number_after, part_step, part_steps, step as value_step}
use Rattle.ra_schedule.specs.Given.{AgreeWhereGiven, GiveTheSame, with_lefts}

module _ (form : Form) where
  -- what gives the same as a second row, which gives the same as a third one, gives the same as the third one
  pub give_through : (groups : List (List Condition)) (one two three : List ℕ) → GiveTheSame form
      groups one two → GiveTheSame form groups two three → GiveTheSame form groups one three
  give_through [] one two three first second = tt
  give_through (cs ∷ groups) one two three first second = (
    record { at = λ j gives. first.0.at j gives ∙ second.0.at j gives },
    give_through groups (drop (length cs) one) (drop (length cs) two) (drop (length cs) three) first.1 second.1,
  )

-- a number that is offered, where the left value is given or is not
offered : (measured total : Bool) (number left left' : ℕ) → ((measured && not total) ≡ true → left ≡ left')
    → (if measured then Some (if total then number else left) else None)
    ≡ (if measured then Some (if total then number else left') else None)
offered false total number left left' same = refl
offered true true number left left' same = refl
offered true false number left left' same = ap Some (same refl)

-- what a group says, by what it asks of its conditions
abbrev said : (paused resets required wanted measured_if : Bool) → Option ℕ → (from_hits : Bool) → Outcome
said paused resets required wanted measured_if number from_hits =
    let reset = not paused && resets in
    record {
      paused = paused;
      reset = reset;
      valid = not paused && not reset && required;
      primed = not paused && not reset && wanted;
      measured = if paused then None else option_if measured_if number;
      from_hits = from_hits;
    }

module _ (f : Frame) (lefts : List ℕ) where
  abbrev g : Frame
  g = with_lefts f lefts

  abbrev js : List ℕ
  js = places f.conditions

  prev_same : (i : ℕ) → prev_of g i ≡ prev_of f i
  prev_same zero = refl
  prev_same (suc i) =
      ap (λ p. seen_after (condition_at f.conditions i) (settled (condition_at f.conditions i)
      (slice_index_or f.truths i false) (slice_index f.hits i) p) p) (prev_same i)

  settled_same : (j : ℕ) → settled_at g j ≡ settled_at f j
  settled_same j =
      ap (settled (condition_at f.conditions j) (slice_index_or f.truths j false) (slice_index f.hits j)) (prev_same j)

  some_same : (class : Flag → Bool) → some_valid class g js ≡ some_valid class f js
  some_same class = (λ i. list_any (λ j. class (condition_at f.conditions j).flag && (settled_same j i).valid) js)

  all_same : (class : Flag → Bool) → all_valid class g js ≡ all_valid class f js
  all_same class = (λ i. list_all (λ j. not (class (condition_at f.conditions j).flag) || (settled_same j i).valid) js)

  pub next_same : next_hits g ≡ next_hits f
  next_same =
      (λ i. map (λ j. if not (hands_on (condition_at f.conditions j).flag)
      && (not (some_same is_pause i) || in_pause_chain f.conditions j) then (settled_same j i).hit
      else slice_index f.hits j) js)

  module _ (form : Form) (agree : AgreeWhereGiven form f.conditions f.lefts lefts) where
    offer_same : (j : ℕ) → offer form g j ≡ offer form f j
    offer_same j =
        let c = condition_at f.conditions j in
        let total = (settled_at f j).total in
        ap (λ (s : Settled). if is_measured c.flag
        then Some (number_of form c s.total (slice_index lefts j)) else None) (settled_same j)
        ∙ offered (is_measured c.flag) (from_total form c) (if c.target == 0 then total
        else min total c.target) (slice_index lefts j) (slice_index f.lefts j)
        (λ gives. sym (agree.at j gives))

    greatest_same : (ks : List ℕ) → greatest form g ks ≡ greatest form f ks
    greatest_same [] = refl
    greatest_same (k ∷ ks) = ap₂ larger (offer_same k) (greatest_same ks)

    pub said_same : outcome_of form g ≡ outcome_of form f
    said_same =
        let from_hits = list_any (λ j. is_measured (condition_at f.conditions j).flag
        && from_total form (condition_at f.conditions j)) js in
        (λ i. said (some_same is_pause i) (some_same is_reset i) (all_same is_required i)
        (all_same is_wanted i) (all_same is_measured_if i) (greatest_same js i) from_hits)

-- what the groups of a trigger say and keep, group by group
outcomes_same : (form : Form) (groups : List (List Condition)) (truths : List Bool)
    (lefts others hits : List ℕ) → GiveTheSame form groups lefts others
    → map (outcome_of form) (frames_along groups truths others hits)
    ≡ map (outcome_of form) (frames_along groups truths lefts hits)
outcomes_same form [] truths lefts others hits same = refl
outcomes_same form (cs ∷ groups) truths lefts others hits same =
    ap₂ (λ o os. o ∷ os)
    (said_same (frame_of cs (take (length cs) truths) (take (length cs) lefts)
    (take (length cs) hits)) (take (length cs) others) form same.0)
    (outcomes_same form groups (drop (length cs) truths) (drop (length cs) lefts)
    (drop (length cs) others) (drop (length cs) hits) same.1)

pub all_next_same : (groups : List (List Condition)) (truths : List Bool) (lefts others hits : List ℕ)
    → flat_map next_hits (frames_along groups truths others hits)
    ≡ flat_map next_hits (frames_along groups truths lefts hits)
all_next_same [] truths lefts others hits = refl
all_next_same (cs ∷ groups) truths lefts others hits =
    ap₂ (λ xs ys. xs ++ ys)
    (next_same (frame_of cs (take (length cs) truths) (take (length cs) lefts)
    (take (length cs) hits)) (take (length cs) others))
    (all_next_same groups (drop (length cs) truths) (drop (length cs) lefts)
    (drop (length cs) others) (drop (length cs) hits))

-- what groups say together, by what each says
abbrev together_by : (has_trigger : Bool) → List Outcome → (hits : List ℕ) → Together
together_by has outcomes hits =
    let reset = list_any (λ o. o.reset) outcomes in
    record {
      reset = reset;
      valid = not reset && core_and_some (λ o. o.valid) outcomes;
      paused = core_or_all (λ o. o.paused) outcomes;
      primed = not reset && (has && core_and_some (λ o. o.primed) outcomes);
      from_hits = list_any (λ o. o.from_hits) outcomes;
      measured = greatest_of outcomes;
      hits = hits;
    }

pub together_same : (t : TriggerContents) (truths : List Bool) (lefts others hits : List ℕ)
    → GiveTheSame InTrigger (groups_of t) lefts others → together t truths others hits
    ≡ together t truths lefts hits
together_same t truths lefts others hits same =
    let outcomes = outcomes_same InTrigger (groups_of t) truths lefts others hits same in
    let next = all_next_same (groups_of t) truths lefts others hits in
    (λ i. together_by (has_trigger (groups_of t)) (outcomes i) (next i))

pub achievement_same : (t : TriggerContents) (truths : List Bool) (lefts others : List ℕ)
    (old : TriggerKept) → GiveTheSame InTrigger (groups_of t) lefts others
    → step t truths others old ≡ step t truths lefts old
achievement_same t truths lefts others old same =
    ap (λ (now : Together). if is_triggered old.state then old else kept_after old now)
    (together_same t truths lefts others old.hits same)

-- a trigger without states
pub test_same : (t : TriggerContents) (truths : List Bool) (lefts others hits : List ℕ)
    → GiveTheSame InTrigger (groups_of t) lefts others
    → (truth t truths others hits ≡ truth t truths lefts hits)
    × (hits_after_truth t truths others hits ≡ hits_after_truth t truths lefts hits)
test_same t truths lefts others hits same =
    let now = together_same t truths lefts others hits same in
    (ap (λ (n : Together). n.valid) now, ap (λ (n : Together). if n.reset then cleared n.hits else n.hits) now)

-- what a part of a value says, by what its group does
abbrev part_by : Outcome → List ℕ → (old : ℕ) → PartStep
part_by o hits old =
    record { reset = o.reset; from_hits = o.from_hits; number = unwrap_or o.measured old; hits = hits }

part_same : (part : PartContents) (f : Frame) (others : List ℕ) (sum old : ℕ)
    → AgreeWhereGiven InValue f.conditions f.lefts others
    → part_step part (with_lefts f others) sum old ≡ part_step part f sum old
part_same (Legacy terms) f others sum old agree = refl
part_same (Grouped cs) f others sum old agree =
    (λ i. part_by (said_same f others InValue agree i) (next_same f others i) old)

parts_same : (parts : List PartContents) (truths : List Bool) (lefts others hits sums numbers : List
    ℕ) → GiveTheSame InValue (map counted_in parts) lefts others
    → part_steps parts truths others hits sums numbers ≡ part_steps parts truths lefts hits sums numbers
parts_same [] truths lefts others hits sums numbers same = refl
parts_same (part ∷ parts) truths lefts others hits sums numbers same =
    let many = length (counted_in part) in
    ap₂ (λ p ps. p ∷ ps)
    (part_same part (frame_of (counted_in part) (take many truths) (take many lefts)
    (take many hits)) (take many others) (slice_index sums 0) (slice_index numbers 0) same.0)
    (parts_same parts (drop many truths) (drop many lefts) (drop many others) (drop many hits)
    (drop 1 sums) (drop 1 numbers) same.1)

-- what is kept of a value, by what its parts say
abbrev value_by : List PartStep → ValueKept
value_by steps =
    let reset = list_any (λ part. part.reset) steps in
    let hits = flat_map (λ part. part.hits) steps in
    record { hits = if reset then replicate (length hits) 0 else hits; numbers = map (number_after reset) steps }

pub value_same : (parts : List PartContents) (truths : List Bool) (lefts others sums : List ℕ)
    (old : ValueKept) → GiveTheSame InValue (map counted_in parts) lefts others
    → value_step parts truths others sums old ≡ value_step parts truths lefts sums old
value_same parts truths lefts others sums old same =
    ap (λ (steps : List PartStep). value_by steps) (parts_same parts truths lefts others old.hits sums old.numbers same)
