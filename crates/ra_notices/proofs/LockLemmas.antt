-- A trigger that a ResetIf or a PauseIf keeps from being valid at each frame.
use Rattle.std.proofs.Common.{◌≡◌, ℕ, zero, suc, ◌==◌, Bool, true, false, not, cond, ◌&&◌, ◌||◌, List, [], ◌∷◌, ◌++◌}
use Rattle.std.proofs.Common.{Option, None, Some, length, map, take, drop, slice_index, slice_index_or, refl, sym, ap}
use Rattle.std.proofs.Common.{subst, ◌∙◌, inl, inr, arith, ◌⊎◌}
use Rattle.std.specs.List.{list_any, list_all}
use Rattle.std.proofs.Math.Seq.{take-append_seam}
use Rattle.std.proofs.lemmas.Bool.{true≢false, false≢true, cases_lt, and_left, and_right}
use Rattle.std.proofs.lemmas.List.{get_or_past}
use Rattle.std.proofs.lemmas.List.FromFn.{get_or-map-range_with_len, length-map-range_with_len}
use Rattle.ra_condition.specs.declared.condition.Condition.{Condition}
use Rattle.ra_condition.specs.declared.flag.Flag.{Flag}
use Rattle.ra_condition.specs.Contents.{condition_at, flag_at, no_condition, TriggerContents, groups_of}
use Rattle.ra_condition.specs.Flags.{hands_on, combines, is_pause, is_reset, is_required}
use Rattle.ra_condition.specs.Chains.{places}
use Rattle.ra_condition.specs.Spelled.{IsTrigger}
use Rattle.ra_memory.specs.Image.{History}
use Rattle.ra_chain.specs.Elaboration.{left_of, right_of}
use Rattle.ra_memref.specs.Values.{Start}
use Rattle.ra_group.specs.declared.form.Form.TheVariants.{InTrigger}
use Rattle.ra_group.specs.declared.settled.Settled.{Settled}
use Rattle.ra_group.specs.Equations.{Frame, frame_of, settled, settled_at, prev_of}
use Rattle.ra_group.specs.Outcome.{outcome_of, some_valid, all_valid}
use Rattle.ra_trigger.specs.declared.state.State.{State}
use Rattle.ra_trigger.specs.declared.state.State.TheVariants.{Active, Paused, Primed, Triggered}
use Rattle.ra_trigger.specs.States.{is_triggered, state_after}
use Rattle.ra_trigger.specs.Steps.{frames_along, core_and_some, together, TriggerKept, kept_after}
use Rattle.ra_member.specs.Folds.{after}
use Rattle.ra_member.specs.Frames.{truth_at, truths_at, lefts_at, achievement_next}
use Rattle.ra_lint.specs.Laws.{group_at}
use Rattle.ra_lint.specs.Warnings.{always_at}
use Rattle.ra_lint.proofs.HistoryLemmas.{SmallSides, AllSmall}
use Rattle.ra_lint.proofs.SoundLemmas.{group_small, group_spelled, groups_small}
use Rattle.ra_lint.proofs.TriggerLemmas.{drop-append_seam}
use Rattle.ra_lint.proofs.VerdictLemmas.{always_holds}
use Rattle.ra_notices.specs.Notices.{has_before, stands, resets_at, pauses_at, resets, locks, some_in, resets_always}
use Rattle.ra_notices.specs.Notices.{all_lock, is_locked}

-- ---- tests of lists

both : (a b : Bool) → (a && b) ≡ true → (a ≡ true) × (b ≡ true)
both true b e = (refl, e)
both false b e = absurd (false≢true e)

either : (a b : Bool) → (a || b) ≡ true → (a ≡ true) ⊎ (b ≡ true)
either true b e = inl refl
either false b e = inr e

left_true : (a b : Bool) → a ≡ true → (a || b) ≡ true
left_true true b e = refl
left_true false b e = absurd (false≢true e)

right_true : (a b : Bool) → b ≡ true → (a || b) ≡ true
right_true true b e = refl
right_true false b e = e

not_true : (b : Bool) → not b ≡ true → b ≡ false
not_true true e = absurd (false≢true e)
not_true false e = refl

-- what has a test at each place has it at some
any_more : (p q : ℕ → Bool) → ((j : ℕ) → p j ≡ true → q j ≡ true) → (js : List ℕ) → list_any p js
    ≡ true → list_any q js ≡ true
any_more p q each [] e = absurd (false≢true e)
any_more p q each (j ∷ js) e = elim (either (p j) (list_any p js) e) [
  | inl here ↦ left_true (q j) (list_any q js) (each j here)
  | inr there ↦ right_true (q j) (list_any q js) (any_more p q each js there)
]

-- some place has one of two tests
any_either : (p q : ℕ → Bool) (js : List ℕ) → list_any (λ j. p j || q j) js ≡ true
    → (list_any p js ≡ true) ⊎ (list_any q js ≡ true)
any_either p q [] e = absurd (false≢true e)
any_either p q (j ∷ js) e = elim (either (p j || q j) (list_any (λ j. p j || q j) js) e) [
  | inl here ↦ elim (either (p j) (q j) here) [
    | inl a ↦ inl (left_true (p j) (list_any p js) a)
    | inr b ↦ inr (left_true (q j) (list_any q js) b)
  ]
  | inr there ↦ elim (any_either p q js there) [
    | inl a ↦ inl (right_true (p j) (list_any p js) a)
    | inr b ↦ inr (right_true (q j) (list_any q js) b)
  ]
]

none_of : (p : ℕ → Bool) → ((j : ℕ) → p j ≡ false) → (js : List ℕ) → list_any p js ≡ false
none_of p none [] = refl
none_of p none (j ∷ js) = subst (λ b. (b || list_any p js) ≡ false) (sym (none j)) (none_of p none js)

and_true : (a b : Bool) → a ≡ true → b ≡ true → (a && b) ≡ true
and_true true b a e = e
and_true false b a e = absurd (false≢true a)

-- without a PauseIf none stands at any place
no_pause_at : (cs : List Condition) → some_in is_pause cs ≡ false → (j : ℕ) → is_pause (flag_at cs j) ≡ false
no_pause_at [] e j = refl
no_pause_at (c ∷ cs) e zero = first (is_pause c.flag) e
  where
    first : (b : Bool) → (b || some_in is_pause cs) ≡ false → b ≡ false
    first true e = absurd (true≢false e)
    first false e = refl
no_pause_at (c ∷ cs) e (suc j) = no_pause_at cs (others (is_pause c.flag) e) j
  where
    others : (b : Bool) → (b || some_in is_pause cs) ≡ false → some_in is_pause cs ≡ false
    others true e = absurd (true≢false e)
    others false e = e

-- ---- one condition

-- nothing stands before it in its chain
no_prev : (f : Frame) (j : ℕ) → has_before f.conditions j ≡ false → prev_of f j ≡ None
no_prev f zero e = refl
no_prev f (suc i) e = by_flag (hands_on (flag_at f.conditions i)) (combines (flag_at f.conditions i)) (no_prev f i) e
  where
    by_flag : (h k : Bool) → (has_before f.conditions i ≡ false → prev_of f i ≡ None)
        → cond h (has_before f.conditions i) k ≡ false
        → cond h (prev_of f i) (cond k (Some (settled_at f i)) None) ≡ None
    by_flag true k next e = next e
    by_flag false true next e = absurd (true≢false e)
    by_flag false false next e = refl

-- a condition without target, with nothing before it, is valid where its comparison holds
valid_alone_at : (c : Condition) (h : ℕ) → (c.target == 0) ≡ true → (settled c true h None).valid ≡ true
valid_alone_at c h e = by_target (combines c.flag) (c.target == 0) _ _ e
  where
    by_target : (k z x y : Bool) → z ≡ true → cond (k || z) (cond z true x) y ≡ true
    by_target true z x y e = subst (λ b. cond b true x ≡ true) (sym e) refl
    by_target false z x y e = subst (λ b. cond b (cond b true x) y ≡ true) (sym e) refl

-- the comparison of each condition that stands holds
abbrev pub HoldsWhereStands : List Condition → List Bool → Type 0
HoldsWhereStands cs truths = (j : ℕ) → stands cs j ≡ true → (is_reset (flag_at cs j)
    || is_pause (flag_at cs j)) ≡ true → slice_index_or truths j false ≡ true

-- a condition that stands is valid
stands_valid : (f : Frame) → HoldsWhereStands f.conditions f.truths → (j : ℕ) → stands f.conditions j ≡ true
    → (is_reset (flag_at f.conditions j) || is_pause (flag_at f.conditions j)) ≡ true → (settled_at f j).valid ≡ true
stands_valid f holds j e flag =
    let c = condition_at f.conditions j in
    let first = both ((c.target == 0) && not (has_before f.conditions j)) (always_at f.conditions j) e in
    let parts = both (c.target == 0) (not (has_before f.conditions j)) first.0 in
    let alone : prev_of f j ≡ None = no_prev f j (not_true (has_before f.conditions j) parts.1) in
    let truth : slice_index_or f.truths j false ≡ true = holds j e flag in
    (λ i. (settled c (truth i) (slice_index f.hits j) (alone i)).valid)
    ∙ valid_alone_at c (slice_index f.hits j) parts.0

resets_valid : (f : Frame) → HoldsWhereStands f.conditions f.truths → (j : ℕ) → resets_at f.conditions j ≡ true
    → (is_reset (flag_at f.conditions j) && (settled_at f j).valid) ≡ true
resets_valid f holds j e =
    let parts = both (is_reset (flag_at f.conditions j)) (stands f.conditions j) e in
    and_true (is_reset (flag_at f.conditions j)) (settled_at f j).valid parts.0
    (stands_valid f holds j parts.1
    (left_true (is_reset (flag_at f.conditions j)) (is_pause (flag_at f.conditions j)) parts.0))

pauses_valid : (f : Frame) → HoldsWhereStands f.conditions f.truths → (j : ℕ) → pauses_at f.conditions j ≡ true
    → (is_pause (flag_at f.conditions j) && (settled_at f j).valid) ≡ true
pauses_valid f holds j e =
    let parts = both (is_pause (flag_at f.conditions j)) (stands f.conditions j) e in
    and_true (is_pause (flag_at f.conditions j)) (settled_at f j).valid parts.0
    (stands_valid f holds j parts.1
    (right_true (is_reset (flag_at f.conditions j)) (is_pause (flag_at f.conditions j)) parts.0))

-- ---- one group

module _ (f : Frame) (holds : HoldsWhereStands f.conditions f.truths) where
  some_resets : resets f.conditions ≡ true → some_valid is_reset f (places f.conditions) ≡ true
  some_resets e = any_more (resets_at f.conditions) (λ j. is_reset (flag_at f.conditions j) && (settled_at f j).valid)
      (resets_valid f holds) (places f.conditions) e

  some_pauses : list_any (pauses_at f.conditions) (places f.conditions) ≡ true
      → some_valid is_pause f (places f.conditions) ≡ true
  some_pauses e = any_more (pauses_at f.conditions) (λ j. is_pause (flag_at f.conditions j) && (settled_at f j).valid)
      (pauses_valid f holds) (places f.conditions) e

  -- a group that locks is not valid
  lock_invalid : locks f.conditions ≡ true → (outcome_of InTrigger f).valid ≡ false
  lock_invalid e = elim (any_either (resets_at f.conditions) (pauses_at f.conditions) (places f.conditions) e) [
    | inl r ↦ by_reset (some_valid is_pause f (places f.conditions))
        (some_valid is_reset f (places f.conditions)) _ (some_resets r)
    | inr p ↦ by_pause (some_valid is_pause f (places f.conditions))
        (some_valid is_reset f (places f.conditions)) _ (some_pauses p)
  ]
    where
      by_reset : (p r v : Bool) → r ≡ true → ((not p && not (not p && r)) && v) ≡ false
      by_reset true r v e = refl
      by_reset false r v e = subst (λ b. (not b && v) ≡ false) (sym e) refl

      by_pause : (p r v : Bool) → p ≡ true → ((not p && not (not p && r)) && v) ≡ false
      by_pause p r v e = subst (λ b. ((not b && not (not b && r)) && v) ≡ false) (sym e) refl

  -- a group that resets and has no PauseIf resets
  reset_always : resets_always f.conditions ≡ true → (outcome_of InTrigger f).reset ≡ true
  reset_always e =
      let parts = both (resets f.conditions) (not (some_in is_pause f.conditions)) e in
      by_parts (some_valid is_pause f (places f.conditions)) (some_valid is_reset f (places f.conditions))
      (none_of (λ j. is_pause (flag_at f.conditions j) && (settled_at f j).valid)
      (λ j. and_left (is_pause (flag_at f.conditions j)) (settled_at f j).valid
      (no_pause_at f.conditions (not_true (some_in is_pause f.conditions) parts.1) j))
      (places f.conditions))
      (some_resets parts.0)
    where
      by_parts : (p r : Bool) → p ≡ false → r ≡ true → (not p && r) ≡ true
      by_parts true r e g = absurd (true≢false e)
      by_parts false r e g = g

-- ---- one trigger

-- the comparisons of each group hold where its conditions stand
abbrev pub AllHold : List (List Condition) → List Bool → Type 0
AllHold [] truths = Unit {0}
AllHold (cs ∷ groups) truths = HoldsWhereStands cs (take (length cs) truths) × AllHold groups (drop (length cs) truths)

some_reset : (groups : List (List Condition)) (truths : List Bool) (lefts hits : List ℕ) → AllHold groups truths
    → list_any resets_always groups ≡ true
    → list_any (λ o. o.reset) (map (outcome_of InTrigger) (frames_along groups truths lefts hits)) ≡ true
some_reset [] truths lefts hits h e = absurd (false≢true e)
some_reset (cs ∷ groups) truths lefts hits h e =
    let f = frame_of cs (take (length cs) truths) (take (length cs) lefts) (take (length cs) hits) in
    let others = list_any (λ o. o.reset) (map (outcome_of InTrigger)
    (frames_along groups (drop (length cs) truths) (drop (length cs) lefts) (drop (length cs) hits))) in
    elim (either (resets_always cs) (list_any resets_always groups) e) [
      | inl here ↦ left_true (outcome_of InTrigger f).reset others (reset_always f h.0 here)
      | inr there ↦ right_true (outcome_of InTrigger f).reset others
          (some_reset groups (drop (length cs) truths) (drop (length cs) lefts) (drop (length cs) hits) h.1 there)
    ]

none_valid : (groups : List (List Condition)) (truths : List Bool) (lefts hits : List ℕ) → AllHold groups truths
    → list_all locks groups ≡ true
    → list_any (λ o. o.valid) (map (outcome_of InTrigger) (frames_along groups truths lefts hits)) ≡ false
none_valid [] truths lefts hits h e = refl
none_valid (cs ∷ groups) truths lefts hits h e =
    let f = frame_of cs (take (length cs) truths) (take (length cs) lefts) (take (length cs) hits) in
    let parts = both (locks cs) (list_all locks groups) e in
    subst (λ v. (v || list_any (λ o. o.valid) (map (outcome_of InTrigger)
    (frames_along groups (drop (length cs) truths) (drop (length cs) lefts) (drop (length cs) hits)))) ≡ false)
    (sym (lock_invalid f h.0 parts.0))
    (none_valid groups (drop (length cs) truths) (drop (length cs) lefts) (drop (length cs) hits) h.1 parts.1)

-- a locked trigger is not valid
pair_invalid : (core : List Condition) (alts : List (List Condition)) (truths : List Bool) (lefts hits : List ℕ)
    → AllHold (core ∷ alts) truths → (locks core || list_any resets_always alts || all_lock alts) ≡ true
    → (together (record { core = core; alts = alts }) truths lefts hits).valid ≡ false
pair_invalid core [] truths lefts hits h e =
    let f = frame_of core (take (length core) truths) (take (length core) lefts) (take (length core) hits) in
    and_right (not ((outcome_of InTrigger f).reset || false)) (outcome_of InTrigger f).valid
    (lock_invalid f h.0 (alone (locks core) e))
  where
    alone : (b : Bool) → (b || false || false) ≡ true → b ≡ true
    alone true e = refl
    alone false e = absurd (false≢true e)
pair_invalid core (alt ∷ alts) truths lefts hits h e =
    let f = frame_of core (take (length core) truths) (take (length core) lefts) (take (length core) hits) in
    let rest_truths = drop (length core) truths in
    let rest_lefts = drop (length core) lefts in
    let rest_hits = drop (length core) hits in
    let outcomes = map (outcome_of InTrigger) (frames_along (alt ∷ alts) rest_truths rest_lefts rest_hits) in
    by_lock (locks core) (list_any resets_always (alt ∷ alts)) (all_lock (alt ∷ alts)) e
    (outcome_of InTrigger f).reset (outcome_of InTrigger f).valid
    (list_any (λ o. o.reset) outcomes) (list_any (λ o. o.valid) outcomes)
    (lock_invalid f h.0)
    (some_reset (alt ∷ alts) rest_truths rest_lefts rest_hits h.1)
    (none_valid (alt ∷ alts) rest_truths rest_lefts rest_hits h.1)
  where
    by_lock : (l r a : Bool) → (l || r || a) ≡ true → (core_reset core_valid reset valid : Bool)
        → (l ≡ true → core_valid ≡ false) → (r ≡ true → reset ≡ true) → (a ≡ true → valid ≡ false)
        → (not (core_reset || reset) && (core_valid && valid)) ≡ false
    by_lock true r a e cr cv rs v p q s = and_right (not (cr || rs)) (cv && v) (and_left cv v (p refl))
    by_lock false true a e cr cv rs v p q s =
        and_left (not (cr || rs)) (cv && v) (ap not (right_true cr rs (q refl)))
    by_lock false false a e cr cv rs v p q s = and_right (not (cr || rs)) (cv && v) (and_right cv v (s e))

-- ---- after a history

module _ (start : Start) (history : History) where
  -- the comparisons of a group at the frame
  group_holds : (cs : List Condition) → SmallSides cs
      → HoldsWhereStands cs (map (truth_at start history cs) (places cs))
  group_holds cs small j e flag = elim (cases_lt j (length cs)) [
    | inl within ↦ get_or-map-range_with_len (truth_at start history cs) 0 (length cs) j j false within (omega arith)
        ∙ always_holds start history (left_of cs j) (right_of cs j) (small j).0 (small j).1
        (condition_at cs j).op (always e)
    | inr past ↦ absurd (false≢true (sym
        (ap (λ c. is_reset c.flag || is_pause c.flag) (get_or_past cs j no_condition past)) ∙ flag))
  ]
    where
      always : stands cs j ≡ true → always_at cs j ≡ true
      always e = (both (((condition_at cs j).target == 0) && not (has_before cs j)) (always_at cs j) e).1

  all_hold : (groups : List (List Condition)) → AllSmall groups → AllHold groups (truths_at start history groups)
  all_hold [] small = tt
  all_hold (cs ∷ groups) small =
      let here = map (truth_at start history cs) (places cs) in
      let rest = truths_at start history groups in
      let many : length here ≡ length cs = length-map-range_with_len (truth_at start history cs) 0 (length cs) in (
        subst (HoldsWhereStands cs) (sym (subst (λ n. take n (here ++ rest) ≡ here) many (take-append_seam here rest)))
            (group_holds cs small.0),
        subst (AllHold groups) (sym (subst (λ n. drop n (here ++ rest) ≡ rest) many (drop-append_seam here rest)))
            (all_hold groups small.1),
      )

-- a trigger that is not valid stays untriggered
stays : (old : State) (reset paused primed : Bool) → is_triggered old ≡ false
    → is_triggered (state_after old reset false paused primed) ≡ false
stays old reset paused primed e =
    subst (λ b. is_triggered (cond b Triggered
    (cond reset (cond paused Paused Active) (cond paused Paused (cond primed Primed Active)))) ≡ false) (sym e)
    (by_cases reset paused primed)
  where
    by_cases : (reset paused primed : Bool)
        → is_triggered (cond reset (cond paused Paused Active) (cond paused Paused (cond primed Primed Active))) ≡ false
    by_cases true true primed = refl
    by_cases true false primed = refl
    by_cases false true primed = refl
    by_cases false false true = refl
    by_cases false false false = refl

module _ (start : Start) (t : TriggerContents) (kept : TriggerKept) (is : IsTrigger t) (locked : is_locked t ≡ true)
    (untriggered : is_triggered kept.state ≡ false) where
  small : AllSmall (groups_of t)
  small = groups_small (groups_of t) (group_spelled t is)

  -- it is not valid at any frame
  never_valid : (image : List ℕ) (earlier : History) (hits : List ℕ)
      → (together t (truths_at start (image ∷ earlier) (groups_of t))
      (lefts_at start (image ∷ earlier) (groups_of t)) hits).valid ≡ false
  never_valid image earlier hits = pair_invalid t.core t.alts (truths_at start (image ∷ earlier) (groups_of t))
      (lefts_at start (image ∷ earlier) (groups_of t)) hits
      (all_hold start (image ∷ earlier) (groups_of t) small) locked

  -- and so it is not triggered
  pub locked_untriggered : (history : History)
      → is_triggered (after (achievement_next start t) kept history).state ≡ false
  locked_untriggered [] = untriggered
  locked_untriggered (image ∷ earlier) = by_state (locked_untriggered earlier)
      (is_triggered (after (achievement_next start t) kept earlier).state) refl
    where
      by_state : is_triggered (after (achievement_next start t) kept earlier).state ≡ false → (s : Bool)
          → is_triggered (after (achievement_next start t) kept earlier).state ≡ s
          → is_triggered (cond s (after (achievement_next start t) kept earlier)
          (kept_after (after (achievement_next start t) kept earlier)
          (together t (truths_at start (image ∷ earlier) (groups_of t))
          (lefts_at start (image ∷ earlier) (groups_of t))
          (after (achievement_next start t) kept earlier).hits))).state ≡ false
      by_state before true s = absurd (true≢false (sym s ∙ before))
      by_state before false s =
          let old = after (achievement_next start t) kept earlier in
          let now = together t (truths_at start (image ∷ earlier) (groups_of t))
          (lefts_at start (image ∷ earlier) (groups_of t)) old.hits in
          subst (λ v. is_triggered (state_after old.state now.reset v now.paused now.primed) ≡ false)
          (sym (never_valid image earlier old.hits)) (stays old.state now.reset now.paused now.primed before)
