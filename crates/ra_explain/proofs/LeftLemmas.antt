-- Left values count for no hits and for no state.
use Rattle.std.proofs.Common.{◌≡◌, ℕ, zero, suc, Bool, false, not, ◌&&◌, ◌||◌, cond, List, [], ◌∷◌, ◌++◌, length, map}
use Rattle.std.proofs.Common.{take, drop, slice_index, slice_index_or, refl, sym, ap, ap₂, ◌∙◌}
use Rattle.std.specs.List.{list_any, list_all, flat_map}
use Rattle.ra_condition.specs.declared.flag.Flag.{Flag}
use Rattle.ra_condition.specs.declared.condition.Condition.{Condition}
use Rattle.ra_condition.specs.Flags.{hands_on, is_pause, is_reset, is_wanted, is_required}
use Rattle.ra_condition.specs.Contents.{condition_at, TriggerContents, groups_of}
use Rattle.ra_condition.specs.Chains.{places, in_pause_chain}
use Rattle.ra_group.specs.declared.outcome.Outcome.{Outcome}
use Rattle.ra_group.specs.declared.form.Form.TheVariants.{InTrigger}
use Rattle.ra_group.specs.Equations.{Frame, frame_of, settled, seen_after, prev_of, settled_at}
use Rattle.ra_group.specs.Outcome.{some_valid, all_valid, outcome_of, next_hit, next_hits}
use Rattle.ra_trigger.specs.Steps.{together, frames_along, core_and_some, core_or_all, has_trigger}

module _ (cs : List Condition) (truths : List Bool) (lefts lefts' hits : List ℕ) where
  abbrev f : Frame
  f = frame_of cs truths lefts hits

  abbrev f' : Frame
  f' = frame_of cs truths lefts' hits

  prev_same : (j : ℕ) → prev_of f j ≡ prev_of f' j
  prev_same zero = refl
  prev_same (suc i) = ap (λ prev. seen_after (condition_at cs i) (settled (condition_at cs i)
      (slice_index_or truths i false) (slice_index hits i) prev) prev) (prev_same i)

  settled_same : (j : ℕ) → settled_at f j ≡ settled_at f' j
  settled_same j = ap (settled (condition_at cs j) (slice_index_or truths j false) (slice_index hits j)) (prev_same j)

  some_same : (class : Flag → Bool) (js : List ℕ) → some_valid class f js ≡ some_valid class f' js
  some_same class [] = refl
  some_same class (j ∷ js) = ap₂ (λ s rest. (class (condition_at cs j).flag && s.valid) || rest)
      (settled_same j) (some_same class js)

  all_same : (class : Flag → Bool) (js : List ℕ) → all_valid class f js ≡ all_valid class f' js
  all_same class [] = refl
  all_same class (j ∷ js) = ap₂ (λ s rest. (not (class (condition_at cs j).flag) || s.valid)
      && rest) (settled_same j) (all_same class js)

  paused_same : (outcome_of InTrigger f).paused ≡ (outcome_of InTrigger f').paused
  paused_same = some_same is_pause (places cs)

  reset_same : (outcome_of InTrigger f).reset ≡ (outcome_of InTrigger f').reset
  reset_same = ap₂ (λ p r. not p && r) (some_same is_pause (places cs)) (some_same is_reset (places cs))

  valid_same : (outcome_of InTrigger f).valid ≡ (outcome_of InTrigger f').valid
  valid_same = λ i. (not (paused_same i) && not (reset_same i)) && all_same is_required (places cs) i

  primed_same : (outcome_of InTrigger f).primed ≡ (outcome_of InTrigger f').primed
  primed_same = λ i. (not (paused_same i) && not (reset_same i)) && all_same is_wanted (places cs) i

  hit_same : (j : ℕ) → next_hit f j ≡ next_hit f' j
  hit_same j = λ i. cond (not (hands_on (condition_at cs j).flag)
      && (not (paused_same i) || in_pause_chain cs j)) (settled_same j i).hit (slice_index hits j)

  map_same : (js : List ℕ) → map (next_hit f) js ≡ map (next_hit f') js
  map_same [] = refl
  map_same (j ∷ js) = ap₂ (λ n ns. n ∷ ns) (hit_same j) (map_same js)

  hits_same : next_hits f ≡ next_hits f'
  hits_same = map_same (places cs)

-- the same of the groups of a trigger
module _ (field : Outcome → Bool) (same : (cs : List Condition) (truths : List Bool)
    (lefts lefts' hits : List ℕ) → field (outcome_of InTrigger (frame_of cs truths lefts hits))
    ≡ field (outcome_of InTrigger (frame_of cs truths lefts' hits))) where
  fields_same : (groups : List (List Condition)) (truths : List Bool) (lefts lefts' hits : List ℕ)
      → map field (map (outcome_of InTrigger) (frames_along groups truths lefts hits))
      ≡ map field (map (outcome_of InTrigger) (frames_along groups truths lefts' hits))
  fields_same [] truths lefts lefts' hits = refl
  fields_same (cs ∷ groups) truths lefts lefts' hits =
      ap₂ (λ b bs. b ∷ bs) (same cs (take (length cs) truths) (take (length cs) lefts)
      (take (length cs) lefts') (take (length cs) hits))
      (fields_same groups (drop (length cs) truths) (drop (length cs) lefts)
      (drop (length cs) lefts') (drop (length cs) hits))

  abbrev holds : Bool → Bool
  holds b = b

  any_is : (os : List Outcome) → list_any field os ≡ list_any holds (map field os)
  any_is [] = refl
  any_is (o ∷ os) = ap (λ b. field o || b) (any_is os)

  all_is : (os : List Outcome) → list_all field os ≡ list_all holds (map field os)
  all_is [] = refl
  all_is (o ∷ os) = ap (λ b. field o && b) (all_is os)

  abbrev some_of : List Bool → Bool
  some_of [] = false
  some_of (b ∷ []) = b
  some_of (b ∷ c ∷ bs) = b && list_any holds (c ∷ bs)

  some_is : (os : List Outcome) → core_and_some field os ≡ some_of (map field os)
  some_is [] = refl
  some_is (o ∷ []) = refl
  some_is (o ∷ p ∷ os) = ap (λ b. field o && b) (any_is (p ∷ os))

  abbrev every_of : List Bool → Bool
  every_of [] = false
  every_of (b ∷ []) = b
  every_of (b ∷ c ∷ bs) = b || list_all holds (c ∷ bs)

  every_is : (os : List Outcome) → core_or_all field os ≡ every_of (map field os)
  every_is [] = refl
  every_is (o ∷ []) = refl
  every_is (o ∷ p ∷ os) = ap (λ b. field o || b) (all_is (p ∷ os))

  module _ (groups : List (List Condition)) (truths : List Bool) (lefts lefts' hits : List ℕ) where
    any_along : list_any field (map (outcome_of InTrigger) (frames_along groups truths lefts hits))
        ≡ list_any field (map (outcome_of InTrigger) (frames_along groups truths lefts' hits))
    any_along = any_is _ ∙ ap (list_any holds) (fields_same groups truths lefts lefts' hits) ∙ sym (any_is _)

    some_along : core_and_some field (map (outcome_of InTrigger)
        (frames_along groups truths lefts hits))
        ≡ core_and_some field (map (outcome_of InTrigger) (frames_along groups truths lefts' hits))
    some_along = some_is _ ∙ ap some_of (fields_same groups truths lefts lefts' hits) ∙ sym (some_is _)

    every_along : core_or_all field (map (outcome_of InTrigger)
        (frames_along groups truths lefts hits))
        ≡ core_or_all field (map (outcome_of InTrigger) (frames_along groups truths lefts' hits))
    every_along = every_is _ ∙ ap every_of (fields_same groups truths lefts lefts' hits) ∙ sym (every_is _)

hits_along : (groups : List (List Condition)) (truths : List Bool) (lefts lefts' hits : List ℕ)
    → flat_map next_hits (frames_along groups truths lefts hits)
    ≡ flat_map next_hits (frames_along groups truths lefts' hits)
hits_along [] truths lefts lefts' hits = refl
hits_along (cs ∷ groups) truths lefts lefts' hits =
    ap₂ (λ a b. a ++ b) (hits_same cs (take (length cs) truths) (take (length cs) lefts)
    (take (length cs) lefts') (take (length cs) hits))
    (hits_along groups (drop (length cs) truths) (drop (length cs) lefts) (drop (length cs) lefts')
    (drop (length cs) hits))

-- together they say the same, but for the measured number
module _ (t : TriggerContents) (truths : List Bool) (lefts lefts' hits : List ℕ) where
  pub together_reset : (together t truths lefts hits).reset ≡ (together t truths lefts' hits).reset
  together_reset = any_along (λ o. o.reset) reset_same (groups_of t) truths lefts lefts' hits

  pub together_valid : (together t truths lefts hits).valid ≡ (together t truths lefts' hits).valid
  together_valid = ap₂ (λ r v. not r && v) together_reset
      (some_along (λ o. o.valid) valid_same (groups_of t) truths lefts lefts' hits)

  pub together_hits : (together t truths lefts hits).hits ≡ (together t truths lefts' hits).hits
  together_hits = hits_along (groups_of t) truths lefts lefts' hits

  pub together_paused : (together t truths lefts hits).paused ≡ (together t truths lefts' hits).paused
  together_paused = every_along (λ o. o.paused) paused_same (groups_of t) truths lefts lefts' hits

  pub together_primed : (together t truths lefts hits).primed ≡ (together t truths lefts' hits).primed
  together_primed = ap₂ (λ r p. not r && (has_trigger (groups_of t) && p)) together_reset
      (some_along (λ o. o.primed) primed_same (groups_of t) truths lefts lefts' hits)
