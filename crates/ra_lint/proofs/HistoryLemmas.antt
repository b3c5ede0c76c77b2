-- Warnings hold after every history.
use Rattle.std.proofs.Common.{◌≡◌, ℕ, Bool, true, false, not, cond, List, [], ◌∷◌, ◌++◌, length, map, take, drop, refl}
use Rattle.std.proofs.Common.{sym, subst, ◌∙◌, inl, inr, arith}
use Rattle.std.proofs.Math.Seq.{take-append_seam}
use Rattle.std.proofs.lemmas.Bool.{true≢false, false≢true, cases_lt, and_right}
use Rattle.std.proofs.lemmas.List.{get_or_past}
use Rattle.std.proofs.lemmas.List.FromFn.{get_or-map-range_with_len, length-map-range_with_len}
use Rattle.ra_condition.specs.declared.condition.Condition.{Condition}
use Rattle.ra_condition.specs.Contents.{condition_at, TriggerContents, groups_of, trigger_hits}
use Rattle.ra_condition.specs.Chains.{places}
use Rattle.ra_memory.specs.Image.{History}
use Rattle.ra_chain.specs.Elaboration.{left_of, right_of}
use Rattle.ra_memref.specs.Values.{Start}
use Rattle.ra_group.specs.declared.form.Form.TheVariants.{InTrigger}
use Rattle.ra_group.specs.Outcome.{outcome_of}
use Rattle.ra_trigger.specs.declared.state.State.{State}
use Rattle.ra_trigger.specs.declared.state.State.TheVariants.{Active, Paused, Primed, Triggered}
use Rattle.ra_trigger.specs.States.{is_triggered, state_after, is_cleared}
use Rattle.ra_trigger.specs.Steps.{frames_along, core_and_some, together, TriggerKept, kept_after, step, cleared}
use Rattle.ra_member.specs.Frames.{truth_at, truths_at, lefts_at, test_holds}
use Rattle.ra_lint.specs.Laws.{plain_achievement, plain_hits}
use Rattle.ra_lint.specs.Sound.{HasSmallConstants}
use Rattle.ra_lint.specs.Among.{MayBe}
use Rattle.ra_lint.specs.Warnings.{never_at, may_hold, is_dead_trigger}
use Rattle.ra_lint.proofs.VerdictLemmas.{never_holds}
use Rattle.ra_lint.proofs.TriggerLemmas.{AllMayHave, AllMayBe, along_may, zeros_may, trigger_dead, drop-append_seam}

-- the constants of a group's trees are numbers of 32 bits
abbrev pub SmallSides : List Condition → Type 0
SmallSides cs = (j : ℕ) → HasSmallConstants (left_of cs j) × HasSmallConstants (right_of cs j)

abbrev pub AllSmall : List (List Condition) → Type 0
AllSmall [] = Unit {0}
AllSmall (cs ∷ groups) = SmallSides cs × AllSmall groups

module _ (start : Start) (history : History) where
  -- a comparison that never holds is false at the frame
  pub never_true : (cs : List Condition) → SmallSides cs → (j : ℕ) → never_at cs j ≡ true
      → truth_at start history cs j ≡ false
  never_true cs small j = never_holds start history (left_of cs j) (right_of cs j) (small j).0 (small j).1
      (condition_at cs j).op

  may_be : (cs : List Condition) → SmallSides cs → MayBe (may_hold cs) (map (truth_at start history cs) (places cs))
  may_be cs small j holds = elim (cases_lt j (length cs)) [
    | inl within ↦ by_never (never_at cs j) refl
        (sym (get_or-map-range_with_len (truth_at start history cs) 0 (length cs) j j false within (omega arith))
        ∙ holds)
    | inr past ↦ absurd (false≢true
        (sym (get_or_past (map (truth_at start history cs) (places cs)) j false
        (omega (arith, past, length-map-range_with_len (truth_at start history cs) 0 (length cs)))) ∙ holds))
  ]
    where
      by_never : (b : Bool) → never_at cs j ≡ b → truth_at start history cs j ≡ true → not b ≡ true
      by_never true never is = absurd (false≢true (sym (never_true cs small j never) ∙ is))
      by_never false never is = refl

  pub all_may_be : (groups : List (List Condition)) → AllSmall groups → AllMayBe groups (truths_at start history groups)
  all_may_be [] small = tt
  all_may_be (cs ∷ groups) small =
      let here = map (truth_at start history cs) (places cs) in
      let rest = truths_at start history groups in
      let many : length here ≡ length cs = length-map-range_with_len (truth_at start history cs) 0 (length cs) in (
        subst (MayBe (may_hold cs)) (sym
            (subst (λ n. take n (here ++ rest) ≡ here) many (take-append_seam here rest))) (may_be cs small.0),
        subst (AllMayBe groups) (sym (subst (λ n. drop n (here ++ rest) ≡ rest) many (drop-append_seam here rest)))
            (all_may_be groups small.1),
      )

module _ (start : Start) (t : TriggerContents) (small : AllSmall (groups_of t)) where
  -- from no hits on only conditions that may be met have hits
  cleared_may : (b : Bool) (hits : List ℕ) → AllMayHave (groups_of t) hits
      → AllMayHave (groups_of t) (cond b (cleared hits) hits)
  cleared_may true hits h = zeros_may (groups_of t) (length hits)
  cleared_may false hits h = h

  step_may : (truths : List Bool) (lefts : List ℕ) (old : TriggerKept) → AllMayBe (groups_of t) truths
      → AllMayHave (groups_of t) old.hits → AllMayHave (groups_of t) (step t truths lefts old).hits
  step_may truths lefts old b h = by_state (is_triggered old.state)
    where
      by_state : (s : Bool) → AllMayHave (groups_of t)
          (cond s old (kept_after old (together t truths lefts old.hits))).hits
      by_state true = h
      by_state false = cleared_may (is_cleared old.state (together t truths lefts old.hits).reset
          (together t truths lefts old.hits).valid) (together t truths lefts old.hits).hits
          (along_may (groups_of t) truths lefts old.hits b h)

  pub achievement_may : (history : History) → AllMayHave (groups_of t) (plain_achievement start t history).hits
  achievement_may [] = zeros_may (groups_of t) (trigger_hits t)
  achievement_may (image ∷ earlier) = step_may (truths_at start (image ∷ earlier) (groups_of t))
      (lefts_at start (image ∷ earlier) (groups_of t)) (plain_achievement start t earlier)
      (all_may_be start (image ∷ earlier) (groups_of t) small) (achievement_may earlier)

  pub test_may : (history : History) → AllMayHave (groups_of t) (plain_hits start t history)
  test_may [] = zeros_may (groups_of t) (trigger_hits t)
  test_may (image ∷ earlier) =
      let hits = plain_hits start t earlier in
      let truths = truths_at start (image ∷ earlier) (groups_of t) in
      let lefts = lefts_at start (image ∷ earlier) (groups_of t) in
      cleared_may (together t truths lefts hits).reset (together t truths lefts hits).hits
      (along_may (groups_of t) truths lefts hits (all_may_be start (image ∷ earlier) (groups_of t) small)
      (test_may earlier))

  module _ (dead : is_dead_trigger t ≡ true) where
    -- a dead trigger is never valid
    never_valid : (image : List ℕ) (earlier : History) (hits : List ℕ) → AllMayHave (groups_of t) hits
        → (together t (truths_at start (image ∷ earlier) (groups_of t))
        (lefts_at start (image ∷ earlier) (groups_of t)) hits).valid ≡ false
    never_valid image earlier hits h =
        let truths = truths_at start (image ∷ earlier) (groups_of t) in
        let lefts = lefts_at start (image ∷ earlier) (groups_of t) in
        and_right (not (together t truths lefts hits).reset)
        (core_and_some (λ o. o.valid) (map (outcome_of InTrigger)
        (frames_along (groups_of t) truths lefts hits)))
        (trigger_dead t truths lefts hits (all_may_be start (image ∷ earlier) (groups_of t) small) h dead)

    stays_untriggered : (old : State) (reset paused primed : Bool) → is_triggered old ≡ false
        → is_triggered (state_after old reset false paused primed) ≡ false
    stays_untriggered old reset paused primed e =
        subst (λ b. is_triggered (cond b Triggered
        (cond reset (cond paused Paused Active) (cond paused Paused (cond primed Primed Active)))) ≡ false) (sym e)
        (by_cases reset paused primed)
      where
        by_cases : (reset paused primed : Bool)
            → is_triggered (cond reset (cond paused Paused Active) (cond paused Paused (cond primed Primed Active)))
            ≡ false
        by_cases true true primed = refl
        by_cases true false primed = refl
        by_cases false true primed = refl
        by_cases false false true = refl
        by_cases false false false = refl

    -- its achievement is never triggered
    pub never_triggered : (history : History) → is_triggered (plain_achievement start t history).state ≡ false
    never_triggered [] = refl
    never_triggered (image ∷ earlier) = by_state (never_triggered earlier)
        (is_triggered (plain_achievement start t earlier).state) refl
      where
        by_state : is_triggered (plain_achievement start t earlier).state ≡ false → (s : Bool)
            → is_triggered (plain_achievement start t earlier).state ≡ s
            → is_triggered (cond s (plain_achievement start t earlier)
            (kept_after (plain_achievement start t earlier)
            (together t (truths_at start (image ∷ earlier) (groups_of t))
            (lefts_at start (image ∷ earlier) (groups_of t)) (plain_achievement start t earlier).hits))).state ≡ false
        by_state before true s = absurd (true≢false (sym s ∙ before))
        by_state before false s =
            let old = plain_achievement start t earlier in
            let now = together t (truths_at start (image ∷ earlier) (groups_of t))
            (lefts_at start (image ∷ earlier) (groups_of t)) old.hits in
            subst (λ v. is_triggered (state_after old.state now.reset v now.paused now.primed) ≡ false)
            (sym (never_valid image earlier old.hits (achievement_may earlier)))
            (stays_untriggered old.state now.reset now.paused now.primed before)

    -- and its test is never true
    pub never_starts : (image : List ℕ) (earlier : History) → test_holds start t (image ∷ earlier)
        (plain_hits start t earlier) ≡ false
    never_starts image earlier = never_valid image earlier (plain_hits start t earlier) (test_may earlier)
