-- Achievements, tests and values that are seen to rest.
use Rattle.std.proofs.Common.{◌≡◌, ℕ, ◌+◌, ◌-◌, Bool, true, false, ◌||◌, List, [], ◌∷◌, length, take, drop, replicate}
use Rattle.std.proofs.Common.{get_or, slice_index, sum_by, refl, sym, ap, ◌∙◌, inl, inr, arith, length-drop}
use Rattle.std.proofs.lemmas.Bool.{cases_lt, cond-true, cond-false}
use Rattle.std.proofs.lemmas.List.{get_or_past, get_or-take, get_or-drop, get_or-replicate, length-replicate}
use Rattle.std.proofs.lemmas.List.FromFn.{fill_by_all}
use Rattle.std.proofs.lemmas.List.Sums.{sum_by-cons}
use Rattle.ra_condition.specs.declared.condition.Condition.{Condition}
use Rattle.ra_condition.specs.Contents.{TriggerContents, groups_of, trigger_hits, condition_at}
use Rattle.ra_group.specs.declared.form.Form.{Form}
use Rattle.ra_group.specs.declared.form.Form.TheVariants.{InTrigger}
use Rattle.ra_trigger.specs.States.{is_cleared, is_triggered}
use Rattle.ra_trigger.specs.Steps.{TriggerKept, Together, together, cleared, kept_after, step, hits_after_truth}
use Rattle.ra_schedule.proofs.Resting.AlongRest.{length-along}
use Rattle.ra_schedule.specs.Groups.{keeps_or_counts, all_keep, groups_keep}
use Rattle.ra_schedule.specs.Triggers.{rested_groups, rested_achievement, rested_test}
use Rattle.ra_schedule.proofs.Resting.Keeping.{groups_rest_kept, and_left, and_right}
use Rattle.ra_schedule.proofs.Resting.Kept.{kept_or_counted, keeps_place}
use Rattle.ra_schedule.proofs.Resting.TriggerRest.{same_kept}

zero_kept : (form : Form) (c : Condition) (h next : ℕ) → keeps_or_counts form c h next ≡ true → next ≡ 0 → h ≡ 0
zero_kept form c h next kept zeroed =
    elim (kept_or_counted form c h next kept) [
      | inl same ↦ sym same ∙ zeroed
      | inr (free, more) ↦ absurd (omega (arith, more, zeroed))
    ]

-- where the hits after a frame are 0, those before it were
zero_at : (form : Form) (gs : List (List Condition)) (before after : List ℕ) → groups_keep form gs before after ≡ true
    → length before ≡ sum_by length gs → ((j : ℕ) → get_or after j 0 ≡ 0) → (j : ℕ) → get_or before j 0 ≡ 0
zero_at form [] before after kept long zeros j = get_or_past before j 0 (omega (arith, long))
zero_at form (cs ∷ gs) before after kept long zeros j =
    elim (cases_lt j (length cs)) [
      | inl l ↦
          sym (get_or-take (length cs) before j 0 l)
          ∙ zero_kept form (condition_at cs j) (slice_index (take (length cs) before) j) (slice_index
          (take (length cs) after) j)
          (keeps_place form cs (take (length cs) before) (take (length cs) after) front j l)
          (get_or-take (length cs) after j 0 l ∙ zeros j)
      | inr g ↦
          ap (λ i. get_or before i 0) (omega (arith, g))
          ∙ sym (get_or-drop (length cs) before (j - length cs) 0)
          ∙ zero_at form gs (drop (length cs) before) (drop (length cs) after) behind
          (omega (arith, long, sum_by-cons length cs gs, length-drop (length cs) before))
          (λ i. get_or-drop (length cs) after i 0 ∙ zeros (length cs + i)) (j - length cs)
    ]
  where
    front : all_keep form cs (take (length cs) before) (take (length cs) after) ≡ true
    front = and_left (all_keep form cs (take (length cs) before) (take (length cs) after)) (groups_keep form gs
        (drop (length cs) before) (drop (length cs) after)) kept

    behind : groups_keep form gs (drop (length cs) before) (drop (length cs) after) ≡ true
    behind = and_right (all_keep form cs (take (length cs) before) (take (length cs) after)) (groups_keep form gs
        (drop (length cs) before) (drop (length cs) after)) kept

abbrev zeros : ℕ → List ℕ
zeros n = replicate n 0

length_zeros : (n : ℕ) → length (zeros n) ≡ n
length_zeros n = length-replicate {A = ℕ} n 0

replicate_at : (n j : ℕ) → get_or (zeros n) j 0 ≡ 0
replicate_at n j =
    elim (cases_lt j n) [
      | inl l ↦ get_or-replicate {A = ℕ} n j 0 0 l
      | inr g ↦ get_or_past (zeros n) j 0 (omega (arith, g, length_zeros n))
    ]

zeros_are : (n : ℕ) (xs : List ℕ) → length xs ≡ n → ((j : ℕ) → get_or xs j 0 ≡ 0) → zeros n ≡ xs
zeros_are n xs long all_zero =
    fill_by_all (λ j. 0) (zeros n) n 0 (length_zeros n) (λ j l. replicate_at n j)
    ∙ sym (fill_by_all (λ j. 0) xs n 0 long (λ j l. all_zero j))

-- hits that are seen to be kept where a frame cleared them were 0
pub cleared_kept : (form : Form) (gs : List (List Condition)) (before : List ℕ) (n : ℕ)
    → groups_keep form gs before (zeros n) ≡ true → length before ≡ sum_by length gs → n ≡ sum_by length gs
    → zeros n ≡ before
cleared_kept form gs before n kept long as_many =
    zeros_are n before (long ∙ sym as_many) (zero_at form gs before (zeros n) kept long (replicate_at n))

module _ (t : TriggerContents) (truths : List Bool) (lefts : List ℕ) (old : TriggerKept) (long : length old.hits
    ≡ trigger_hits t) where
  abbrev now : Together
  now = together t truths lefts old.hits

  abbrev clear : Bool
  clear = is_cleared old.state now.reset now.valid

  abbrev with_more : TriggerKept
  with_more = record { state = old.state; measured = old.measured; hits = rested_groups 1 t truths lefts old.hits }

  -- an achievement that keeps its state and its number, and whose conditions keep their hits or count, rests
  pub achievement_seen : (step t truths lefts old).state ≡ old.state
      → (step t truths lefts old).measured ≡ old.measured
      → groups_keep InTrigger (groups_of t) old.hits (step t truths lefts old).hits ≡ true
      → step t truths lefts old ≡ rested_achievement 1 t truths lefts old
  achievement_seen state measured kept = by_end (is_triggered old.state) clear refl refl
    where
      by_end : (a b : Bool) → is_triggered old.state ≡ a → clear ≡ b
          → step t truths lefts old ≡ rested_achievement 1 t truths lefts old
      by_end true b triggered e =
          cond-true (is_triggered old.state) old (kept_after old now) triggered
          ∙ sym (cond-true (is_triggered old.state || clear) old with_more (ap (λ x. x || clear) triggered))
      by_end false true waits e =
          let is = cond-false (is_triggered old.state) old (kept_after old now) waits in
          let emptied = ap (λ k. k.hits) is ∙ cond-true clear (cleared now.hits) now.hits e in
          same_kept state measured
          (emptied ∙ cleared_kept InTrigger (groups_of t) old.hits (length now.hits)
          (ap (groups_keep InTrigger (groups_of t) old.hits) (sym emptied) ∙ kept) long (length-along
          (groups_of t) truths lefts old.hits))
          ∙ sym (cond-true (is_triggered old.state || clear) old with_more (ap (λ x. x || clear) waits ∙ e))
      by_end false false waits e =
          let is = cond-false (is_triggered old.state) old (kept_after old now) waits in
          let next = ap (λ k. k.hits) is ∙ cond-false clear (cleared now.hits) now.hits e in
          same_kept state measured
          (next ∙ groups_rest_kept InTrigger (groups_of t) truths lefts old.hits
          (ap (groups_keep InTrigger (groups_of t) old.hits) (sym next) ∙ kept))
          ∙ sym (cond-false (is_triggered old.state || clear) old with_more (ap (λ x. x || clear) waits ∙ e))

-- a test whose conditions keep their hits or count rests
pub test_seen : (t : TriggerContents) (truths : List Bool) (lefts hits : List ℕ) → length hits ≡ trigger_hits t
    → groups_keep InTrigger (groups_of t) hits (hits_after_truth t truths lefts hits) ≡ true
    → hits_after_truth t truths lefts hits ≡ rested_test 1 t truths lefts hits
test_seen t truths lefts hits long kept = by_reset (together t truths lefts hits).reset refl
  where
    by_reset : (b : Bool) → (together t truths lefts hits).reset ≡ b
        → hits_after_truth t truths lefts hits ≡ rested_test 1 t truths lefts hits
    by_reset true e =
        let emptied = cond-true (together t truths lefts hits).reset (cleared (together t truths lefts hits).hits)
        (together t truths lefts hits).hits e in
        emptied
        ∙ cleared_kept InTrigger (groups_of t) hits (length (together t truths lefts hits).hits)
        (ap (groups_keep InTrigger (groups_of t) hits) (sym emptied) ∙ kept) long (length-along
        (groups_of t) truths lefts hits)
        ∙ sym (cond-true (together t truths lefts hits).reset hits (rested_groups 1 t truths lefts hits) e)
    by_reset false e =
        let next = cond-false (together t truths lefts hits).reset (cleared (together t truths lefts hits).hits)
        (together t truths lefts hits).hits e in
        next
        ∙ groups_rest_kept InTrigger (groups_of t) truths lefts hits (ap (groups_keep InTrigger (groups_of t) hits)
        (sym next) ∙ kept)
        ∙ sym (cond-false (together t truths lefts hits).reset hits (rested_groups 1 t truths lefts hits) e)
