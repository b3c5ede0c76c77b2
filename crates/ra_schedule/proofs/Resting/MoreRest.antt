-- n frames at rest after m of them are m and n ones.
use Rattle.std.proofs.Common.{◌≡◌, ℕ, ◌+◌, ◌<◌, Bool, true, false, ◌||◌, cond, List, [], ◌∷◌, ◌++◌, length, map}
use Rattle.std.proofs.Common.{slice_index, refl, sym, ap, ◌∙◌, arith}
use Rattle.std.specs.List.{flat_map, list_any}
use Rattle.std.proofs.lemmas.Bool.{cond-true, cond-false}
use Rattle.std.proofs.lemmas.List.FromFn.{fill_by_all, get_or-map-range_with_len}
use Rattle.ra_condition.specs.declared.condition.Condition.{Condition}
use Rattle.ra_condition.specs.Contents.{TriggerContents, PartContents, groups_of, counted_in}
use Rattle.ra_group.specs.declared.form.Form.{Form}
use Rattle.ra_group.specs.declared.form.Form.TheVariants.{InTrigger, InValue}
use Rattle.ra_group.specs.Equations.{Frame}
use Rattle.ra_trigger.specs.States.{is_cleared, is_triggered}
use Rattle.ra_trigger.specs.Steps.{TriggerKept, Together, frames_along, together}
use Rattle.ra_value.specs.Steps.{ValueKept, part_steps}
use Rattle.ra_schedule.specs.Groups.{is_counting, plus, rested_hit, rested_hits, with_hits}
use Rattle.ra_schedule.specs.Triggers.{rested_groups, rested_achievement, rested_test}
use Rattle.ra_schedule.specs.Values.{rested_parts, rested_value}
use Rattle.ra_schedule.proofs.Resting.GroupLemmas.{counting_same}
use Rattle.ra_schedule.proofs.Resting.GroupRest.{rested_agree}
use Rattle.ra_schedule.proofs.Resting.AlongRest.{length-rested, frames-rested}
use Rattle.ra_schedule.proofs.Resting.TriggerRest.{together-rested}
use Rattle.ra_schedule.proofs.Resting.ValueRest.{reset_later}

-- a hit that counts or stays
more_hit : (b : Bool) (m n h : ℕ)
    → cond b (plus n (cond b (plus m h) h)) (cond b (plus m h) h) ≡ cond b (plus (m + n) h) h
more_hit true m n h = omega arith
more_hit false m n h = refl

module _ (form : Form) (m n : ℕ) where
  abbrev rested : Frame → Frame
  rested f = with_hits f (rested_hits m form f)

  -- a group
  more_hits : (f : Frame) → rested_hits n form (rested f) ≡ rested_hits (m + n) form f
  more_hits f = fill_by_all (rested_hit (m + n) form f) (rested_hits n form (rested f)) (length f.conditions) 0
      (length-rested n form (rested f)) at
    where
      at : (j : ℕ) → j < length f.conditions
          → slice_index (rested_hits n form (rested f)) j ≡ rested_hit (m + n) form f j
      at j l =
          get_or-map-range_with_len (rested_hit n form (rested f)) 0 (length f.conditions) j j 0 l (omega arith)
          ∙ ap (λ b. cond b (plus n (slice_index (rested_hits m form f) j)) (slice_index (rested_hits m form f) j))
          (sym (counting_same form f (rested_hits m form f) (rested_agree form f m) j))
          ∙ ap (λ h. cond (is_counting form f j) (plus n h) h)
          (get_or-map-range_with_len (rested_hit m form f) 0 (length f.conditions) j j 0 l (omega arith))
          ∙ more_hit (is_counting form f j) m n (slice_index f.hits j)

  -- groups side by side
  more_frames : (fs : List Frame)
      → flat_map (rested_hits n form) (map rested fs) ≡ flat_map (rested_hits (m + n) form) fs
  more_frames [] = refl
  more_frames (f ∷ fs) =
      ap (λ hs. hs ++ flat_map (rested_hits n form) (map rested fs)) (more_hits f)
      ∙ ap (λ hs. rested_hits (m + n) form f ++ hs) (more_frames fs)

  more_along : (gs : List (List Condition)) (truths : List Bool) (lefts hits : List ℕ)
      → flat_map (rested_hits n form) (frames_along gs truths lefts (flat_map (rested_hits m form)
      (frames_along gs truths lefts hits)))
      ≡ flat_map (rested_hits (m + n) form) (frames_along gs truths lefts hits)
  more_along gs truths lefts hits =
      ap (flat_map (rested_hits n form)) (frames-rested form m gs truths lefts hits)
      ∙ more_frames (frames_along gs truths lefts hits)

module _ (m n : ℕ) (t : TriggerContents) (truths : List Bool) (lefts : List ℕ) where
  abbrev groups : ℕ → List ℕ → List ℕ
  groups k hits = rested_groups k t truths lefts hits

  abbrev stays : TriggerKept → Together → Bool
  stays old now = is_triggered old.state || is_cleared old.state now.reset now.valid

  abbrev with_more : TriggerKept → List ℕ → TriggerKept
  with_more old hits = record { state = old.state; measured = old.measured; hits = hits }

  -- an achievement
  pub more_achievement : (old : TriggerKept)
      → rested_achievement n t truths lefts (rested_achievement m t truths lefts old)
      ≡ rested_achievement (m + n) t truths lefts old
  more_achievement old = by_end (stays old (together t truths lefts old.hits)) refl
    where
      by_end : (b : Bool) → stays old (together t truths lefts old.hits) ≡ b
          → rested_achievement n t truths lefts (rested_achievement m t truths lefts old)
          ≡ rested_achievement (m + n) t truths lefts old
      by_end true e =
          ap (rested_achievement n t truths lefts) (cond-true (stays old (together t truths lefts old.hits)) old
          (with_more old (groups m old.hits)) e)
          ∙ cond-true (stays old (together t truths lefts old.hits)) old (with_more old (groups n old.hits)) e
          ∙ sym (cond-true (stays old (together t truths lefts old.hits)) old
          (with_more old (groups (m + n) old.hits)) e)
      by_end false e =
          ap (rested_achievement n t truths lefts) (cond-false (stays old (together t truths lefts old.hits)) old
          (with_more old (groups m old.hits)) e)
          ∙ ap (λ x. cond (stays old x) (with_more old (groups m old.hits))
          (with_more old (groups n (groups m old.hits)))) (together-rested m t truths lefts old.hits)
          ∙ cond-false (stays old (together t truths lefts old.hits)) (with_more old (groups m old.hits))
          (with_more old (groups n (groups m old.hits))) e
          ∙ ap (with_more old) (more_along InTrigger m n (groups_of t) truths lefts old.hits)
          ∙ sym (cond-false (stays old (together t truths lefts old.hits)) old
          (with_more old (groups (m + n) old.hits)) e)

  -- a test
  pub more_test : (hits : List ℕ)
      → rested_test n t truths lefts (rested_test m t truths lefts hits) ≡ rested_test (m + n) t truths lefts hits
  more_test hits = by_reset (together t truths lefts hits).reset refl
    where
      by_reset : (b : Bool) → (together t truths lefts hits).reset ≡ b
          → rested_test n t truths lefts (rested_test m t truths lefts hits)
          ≡ rested_test (m + n) t truths lefts hits
      by_reset true e =
          ap (rested_test n t truths lefts) (cond-true (together t truths lefts hits).reset hits (groups m hits) e)
          ∙ cond-true (together t truths lefts hits).reset hits (groups n hits) e
          ∙ sym (cond-true (together t truths lefts hits).reset hits (groups (m + n) hits) e)
      by_reset false e =
          ap (rested_test n t truths lefts) (cond-false (together t truths lefts hits).reset hits (groups m hits) e)
          ∙ ap (λ x. cond x.reset (groups m hits) (groups n (groups m hits))) (together-rested m t truths lefts hits)
          ∙ cond-false (together t truths lefts hits).reset (groups m hits) (groups n (groups m hits)) e
          ∙ more_along InTrigger m n (groups_of t) truths lefts hits
          ∙ sym (cond-false (together t truths lefts hits).reset hits (groups (m + n) hits) e)

module _ (m n : ℕ) (parts : List PartContents) (truths : List Bool) (lefts sums : List ℕ) (old : ValueKept) where
  abbrev resets : Bool
  resets = list_any (λ part. part.reset) (part_steps parts truths lefts old.hits sums old.numbers)

  abbrev hits_of : ℕ → List ℕ → List ℕ
  hits_of k hits = rested_parts k parts truths lefts hits

  abbrev with_new : List ℕ → ValueKept
  with_new hits = record { hits = hits; numbers = old.numbers }

  -- a value
  pub more_value : rested_value n parts truths lefts sums (rested_value m parts truths lefts sums old)
      ≡ rested_value (m + n) parts truths lefts sums old
  more_value = by_reset resets refl
    where
      by_reset : (b : Bool) → resets ≡ b
          → rested_value n parts truths lefts sums (rested_value m parts truths lefts sums old)
          ≡ rested_value (m + n) parts truths lefts sums old
      by_reset true e =
          ap (rested_value n parts truths lefts sums) (cond-true resets old (with_new (hits_of m old.hits)) e)
          ∙ cond-true resets old (with_new (hits_of n old.hits)) e
          ∙ sym (cond-true resets old (with_new (hits_of (m + n) old.hits)) e)
      by_reset false e =
          ap (rested_value n parts truths lefts sums) (cond-false resets old (with_new (hits_of m old.hits)) e)
          ∙ ap (λ b. cond b (with_new (hits_of m old.hits)) (with_new (hits_of n (hits_of m old.hits))))
          (reset_later m parts truths lefts sums old)
          ∙ cond-false resets (with_new (hits_of m old.hits)) (with_new (hits_of n (hits_of m old.hits))) e
          ∙ ap with_new (more_along InValue m n (map counted_in parts) truths lefts old.hits)
          ∙ sym (cond-false resets old (with_new (hits_of (m + n) old.hits)) e)
