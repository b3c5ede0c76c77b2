-- An item that rested at a frame goes on to rest while it sees the same.
use Rattle.std.specs.Prelude.{Box}
use Rattle.std.specs.declared.alloc.Global.{Global}
use Rattle.std.proofs.Common.{◌≡◌, ℕ, zero, suc, ◌+◌, ◌-◌, ◌==◌, ◌&&◌, ◌||◌, not, Bool, true, false, if◌then◌else◌}
use Rattle.std.proofs.Common.{List, [], ◌∷◌, ◌++◌, length, map, get_or, refl, sym, ◌∙◌, ap, ap₂}
use Rattle.std.proofs.lemmas.Bool.{eq-eqb}
use Rattle.std.proofs.lemmas.List.{length-map}
use Rattle.ra_condition.specs.Contents.{TriggerContents, groups_of, trigger_hits, PartContents, value_hits}
use Rattle.ra_memory.specs.Image.{History}
use Rattle.ra_memref.specs.Table.{TableSeen}
use Rattle.ra_memref.specs.Values.{Start}
use Rattle.ra_leaderboard.specs.declared.state.BoardState.{BoardState}
use Rattle.ra_leaderboard.specs.declared.state.BoardState.TheVariants as boards
use Rattle.ra_leaderboard.specs.Contents.{BoardContents}
use Rattle.ra_leaderboard.specs.States.{begins, became_started, became_cancelled, became_submitted, is_running}
use Rattle.ra_trigger.specs.States.{is_primed, is_triggered, state_byte}
use Rattle.ra_trigger.specs.Steps.{TriggerKept, step as achievement_step}
use Rattle.ra_value.specs.Steps.{ValueKept, no_value, signed_greatest}
use Rattle.ra_value_format.specs.declared.format.Format.{Format}
use Rattle.ra_set.specs.Contents.{ItemContents, Unlocks, Ranks}
use Rattle.ra_schedule.specs.Triggers.{owed_trigger}
use Rattle.ra_progress.specs.Contents.{KeptItem, OfAchievement}
use Rattle.ra_member.specs.Frames.{truths_at, lefts_at}
use Rattle.ra_member.specs.Members.{MemberContents, MemberKept, HasShape, tests_next, tests_hold, values_next}
use Rattle.ra_member.specs.Members.{no_values}
use Rattle.ra_member.proofs.Shaped.{member_shape}
use Rattle.ra_schedule.specs.Inputs.{SeeSame, MemberSeesSame}
use Rattle.ra_schedule.specs.Owing.{ValuesKeep, owed_member, owed_values}
use Rattle.ra_group.specs.declared.form.Form.TheVariants.{InTrigger}
use Rattle.ra_schedule.proofs.Resting.Lefts.{achievement_same}
use Rattle.ra_schedule.proofs.MembersRest.GoesOn.{tests_go_on, tests_say_on, values_go_on, tests_owe_nothing}
use Rattle.ra_schedule.proofs.MembersRest.GoesOn.{values_owe_nothing, values_stay, numbers_long, owed_fits, as_many}
use Rattle.ra_schedule.proofs.MembersRest.OneOn.{achievement_goes_on, achievement_owes_nothing}
use Rattle.ra_items.specs.declared.achievement_run.AchievementRun.{AchievementRun}
use Rattle.ra_items.specs.declared.board_run.BoardRun.{BoardRun}
use Rattle.ra_meaning.specs.declared.event.Event.{Event}
use Rattle.ra_meaning.specs.declared.event.Event.TheVariants as events
use Rattle.ra_items.specs.declared.item_run.ItemRun.{ItemRun}
use Rattle.ra_items.specs.declared.item_run.ItemRun.TheVariants.{Achievement, Leaderboard}
use Rattle.ra_items.specs.declared.rest.ItemCounts.{ItemCounts}
use Rattle.ra_items.specs.declared.rest.ItemCounts.TheVariants as counts
use Rattle.ra_schedule.specs.declared.member_counts.MemberCounts.{MemberCounts}
use Rattle.ra_schedule.specs.Counted.{CountsSeen, owed_by, owed_member_by}
use Rattle.ra_schedule.proofs.MembersRest.Counted.{counted_owes, counted_owes_member}
use Rattle.ra_meaning.specs.Boards.{BoardKept, board_after, board_next, kept_board, number_at, opened_board}
use Rattle.ra_meaning.specs.Boards.{running_values, state_by, tracked_number}
use Rattle.ra_items.specs.BoardRuns.{IsBoardRun, board_kept}
use Rattle.ra_meaning.specs.Earned.{is_earned}
use Rattle.ra_meaning.specs.Events.{achievement_events, board_events, event_if, is_started, same_number}
use Rattle.ra_meaning.specs.Histories.{achievement_after}
use Rattle.ra_items.specs.ItemRuns.{IsItemRun, StepsItem, kept_run}
use Rattle.ra_meaning.specs.Openings.{item_after, kept_achievement, opened_achievement}
use Rattle.ra_meaning.specs.Order.{board_member}
use Rattle.ra_meaning.specs.Play.{item_events, unless_earned}
use Rattle.ra_items.specs.Resting.{AreValuesAt, BoardRested, GoesOn, Rested, TriggerRested, board_owed, first_frame}
use Rattle.ra_items.specs.Resting.{owed_run, trigger_owed}
use Rattle.ra_items.specs.RunEvents.{run_events}
use Rattle.ra_meaning.proofs.Openings.Again.{achievement_again, board_again}
use Rattle.ra_meaning.proofs.Counts.Fitting.{BoardFits, board_fits}

-- what was earned or triggered is so once more where it is triggered
once_more : (earned triggered : Bool) → ((earned || triggered) || triggered) ≡ (earned || triggered)
once_more true triggered = refl
once_more false true = refl
once_more false false = refl

-- nothing is told where a state and a number stay
not_both : (b : Bool) → (not b && b) ≡ false
not_both true = refl
not_both false = refl

both_not : (b : Bool) → (b && not b) ≡ false
both_not true = refl
both_not false = refl

nothing_unless : (earned : Bool) (tells : ItemContents × KeptItem → List Event) (item : ItemContents
    × KeptItem) → tells item ≡ [] → unless_earned tells (earned, item) ≡ []
nothing_unless true tells item nothing = refl
nothing_unless false tells item nothing = nothing

-- an achievement that keeps its state and its measured number tells nothing
achievement_silent : (id : ℕ) (old new : TriggerKept) → new.state ≡ old.state → new.measured
    ≡ old.measured → achievement_events id old new ≡ []
achievement_silent id old new state measured =
    let number : (old.measured == new.measured) ≡ true = eq-eqb old.measured new.measured (sym measured) in
    let from_primed = ap (λ s. is_primed old.state && not (is_primed s)) state ∙ both_not (is_primed old.state) in
    let to_primed = ap (λ s. not (is_primed old.state) && is_primed s) state ∙ not_both (is_primed old.state) in
    let unlocked = ap (λ s. not (is_triggered old.state) && is_triggered s) state ∙ not_both (is_triggered old.state) in
    (λ i. event_if (not (number i)) (events.Measured id new.measured)
    ++ event_if (to_primed i) (events.Primed id) ++ event_if (from_primed i) (events.Unprimed id)
    ++ event_if (unlocked i) (events.Unlock id))

-- a board's state that stays begins no attempt, and ends none
stays_begins : (s : BoardState) → begins s s ≡ false
stays_begins boards.Waiting = refl
stays_begins boards.Active = refl
stays_begins boards.Started = refl
stays_begins boards.Cancelled = refl
stays_begins boards.Submitted = refl

stays_started : (s : BoardState) → became_started s s ≡ false
stays_started boards.Waiting = refl
stays_started boards.Active = refl
stays_started boards.Started = refl
stays_started boards.Cancelled = refl
stays_started boards.Submitted = refl

stays_cancelled : (s : BoardState) → became_cancelled s s ≡ false
stays_cancelled boards.Waiting = refl
stays_cancelled boards.Active = refl
stays_cancelled boards.Started = refl
stays_cancelled boards.Cancelled = refl
stays_cancelled boards.Submitted = refl

stays_submitted : (s : BoardState) → became_submitted s s ≡ false
stays_submitted boards.Waiting = refl
stays_submitted boards.Active = refl
stays_submitted boards.Started = refl
stays_submitted boards.Cancelled = refl
stays_submitted boards.Submitted = refl

-- a board that keeps its state, and its numbers where an attempt runs, tells nothing
not_told : (started changed : Bool) → (started ≡ true → changed ≡ false) → (started && (false || changed)) ≡ false
not_told false changed same = refl
not_told true changed same = same refl

board_silent : (id : ℕ) (format : Format) (old new : BoardKept) → new.state ≡ old.state
    → (is_started new.state ≡ true → tracked_number old ≡ tracked_number new)
    → board_events id format old new ≡ []
board_silent id format old new state tracked =
    let s = old.state in
    let started : became_started s new.state ≡ false = ap (became_started s) state ∙ stays_started s in
    let unchanged : is_started new.state ≡ true
    → not (same_number (tracked_number old) (tracked_number new)) ≡ false = λ runs.
    ap (λ v. not (same_number v (tracked_number new))) (tracked runs) ∙ ap not (eq-eqb _ _ refl) in
    let track = ap (λ b. is_started new.state && (b
    || not (same_number (tracked_number old) (tracked_number new)))) started ∙ not_told (is_started
    new.state) (not (same_number (tracked_number old) (tracked_number new))) unchanged in
    let cancelled = ap (became_cancelled s) state ∙ stays_cancelled s in
    let submitted = ap (became_submitted s) state ∙ stays_submitted s in
    (λ i. event_if (started i) (events.Start id) ++ event_if (track i) (events.Track id
    (tracked_number new) format) ++ event_if (cancelled i) (events.Cancel id) ++ event_if
    (submitted i) (events.Submit id (number_at new.member.values 0) format))

-- achievements
module _ (table : TableSeen) (id : ℕ) (t : TriggerContents) (mid new : AchievementRun) (c : CountsSeen)
    (long : length mid.run.trigger.hits ≡ trigger_hits t)
    (steps : StepsItem table (Unlocks id t) (Achievement mid) (Achievement new)) (rested : TriggerRested t c mid new)
    (start : Start) (image : List ℕ) (has : AreValuesAt table.nodes table.values (first_frame start image)) where
  abbrev old_kept : TriggerKept
  old_kept = mid.run.trigger

  abbrev new_kept : TriggerKept
  new_kept = new.run.trigger

  -- what is owed by bits is owed by the hits before the step and after it
  trigger_owes : (n : ℕ) → trigger_owed n c new ≡ kept_achievement new.earned (owed_trigger n old_kept.hits new_kept)
  trigger_owes n =
      ap (λ h. kept_achievement new.earned (record new_kept { hits = h }))
      (ap (λ bits. owed_by n bits new_kept.hits) rested.bits ∙ counted_owes n old_kept.hits new_kept.hits)

  abbrev truths : List Bool
  truths = truths_at start (image ∷ []) (groups_of t)

  abbrev lefts : List ℕ
  lefts = lefts_at start (image ∷ []) (groups_of t)

  abbrev achievement : ItemContents
  achievement = Unlocks id t

  stepped : new_kept ≡ achievement_step t truths lefts old_kept
  stepped =
      sym (achievement_again new.earned new_kept)
      ∙ ap opened_achievement (steps.kept start image has)
      ∙ achievement_again (is_earned (kept_run (Achievement mid)))
      (achievement_after start t (opened_achievement (kept_run (Achievement mid))) (image ∷ []))
      ∙ ap (achievement_step t truths lefts) (achievement_again mid.earned mid.run.trigger)

  goes_on : (n : ℕ) → achievement_step t truths lefts (owed_trigger n old_kept.hits new_kept)
      ≡ owed_trigger (n + 1) old_kept.hits new_kept
  goes_on n = achievement_goes_on t truths lefts old_kept new_kept long rested.small stepped
      rested.rests.state rested.rests.measured rested.rests.hits n

  pub achievement_starts : owed_run 0 (counts.Achievement c) (Achievement new) ≡ kept_run (Achievement new)
  achievement_starts =
      trigger_owes 0
      ∙ ap (kept_achievement new.earned) (achievement_owes_nothing t truths lefts old_kept new_kept
      long rested.small stepped rested.rests.state rested.rests.measured rested.rests.hits)

  module _ (start' : Start) (image' : List ℕ) (same : SeeSame InTrigger (first_frame start image)
      (first_frame start' image') (groups_of t)) (n : ℕ) where
    abbrev kept_now : TriggerKept
    kept_now = owed_trigger n old_kept.hits new_kept

    abbrev kept_then : TriggerKept
    kept_then = owed_trigger (n + 1) old_kept.hits new_kept

    later : achievement_after start' t (opened_achievement (kept_achievement new.earned kept_now))
        (image' ∷ []) ≡ kept_then
    later =
        ap (λ k. achievement_after start' t k (image' ∷ [])) (achievement_again new.earned kept_now)
        ∙ achievement_same t (truths_at start' (image' ∷ []) (groups_of t)) lefts
        (lefts_at start' (image' ∷ []) (groups_of t)) kept_now same.lefts
        ∙ ap (λ ts. achievement_step t ts lefts kept_now) same.truths
        ∙ goes_on n

    kept_later : item_after start' (image' ∷ [])
        (achievement, owed_run n (counts.Achievement c) (Achievement new))
        ≡ owed_run (n + 1) (counts.Achievement c) (Achievement new)
    kept_later =
        ap (λ k. item_after start' (image' ∷ []) (achievement, k)) (trigger_owes n)
        ∙ ap (kept_achievement (is_earned (kept_achievement new.earned kept_now))) later
        ∙ ap (OfAchievement (state_byte new_kept.state) new_kept.measured kept_then.hits)
        (once_more new.earned (is_triggered new_kept.state))
        ∙ sym (trigger_owes (n + 1))

    silent_later : item_events start' image' [] (achievement, owed_run n (counts.Achievement c) (Achievement new)) ≡ []
    silent_later =
        ap (λ k. item_events start' image' [] (achievement, k)) (trigger_owes n)
        ∙ ap₂ (achievement_events id) (achievement_again new.earned kept_now) later
        ∙ achievement_silent id kept_now kept_then refl refl

  told_now : run_events achievement (Achievement new) ≡ []
  told_now =
      let K = kept_run (Achievement mid) in
      steps.events start image has
      ∙ nothing_unless (is_earned K) (item_events start image []) (achievement, K)
      (ap₂ (achievement_events id) (achievement_again mid.earned mid.run.trigger)
      (ap (λ k. achievement_after start t k (image ∷ [])) (achievement_again mid.earned mid.run.trigger) ∙ sym stepped)
      ∙ achievement_silent id old_kept new_kept rested.rests.state rested.rests.measured)

  pub achievement_rests_on : GoesOn table.nodes table.values achievement (counts.Achievement c) (Achievement new)
  achievement_rests_on = record {
    now = first_frame start image;
    at = has;
    kept = λ start' image' same n. kept_later start' image' same n;
    silent = λ start' image' same n. silent_later start' image' same n;
    told = told_now;
  }

-- what is said of an element
get_mapped : {A B : Type 0} (f : A → B) (xs : List A) (k : ℕ) (d : A) → get_or (map f xs) k (f d) ≡ f (get_or xs k d)
get_mapped f [] k d = refl
get_mapped f (x ∷ xs) zero d = refl
get_mapped f (x ∷ xs) (suc k) d = get_mapped f xs k d

-- an attempt that started runs
started_runs : (s : BoardState) → is_started s ≡ true → is_running s ≡ true
started_runs boards.Waiting started = started
started_runs boards.Active started = started
started_runs boards.Started started = refl
started_runs boards.Cancelled started = started
started_runs boards.Submitted started = refl

-- values that keep their numbers have the same ones
keep_numbers : (values : List (List PartContents)) (olds news : List ValueKept) → ValuesKeep values
    olds news → map (λ (v : ValueKept). v.numbers) olds ≡ map (λ (v : ValueKept). v.numbers) news
keep_numbers [] [] [] keep = refl
keep_numbers [] [] (new ∷ news) keep = absurd keep
keep_numbers [] (old ∷ olds) news keep = absurd keep
keep_numbers (parts ∷ values) [] news keep = absurd keep
keep_numbers (parts ∷ values) (old ∷ olds) [] keep = absurd keep
keep_numbers (parts ∷ values) (old ∷ olds) (new ∷ news) keep =
    ap₂ (λ x xs. x ∷ xs) (sym keep.0.numbers) (keep_numbers values olds news keep.1)

-- the tracked number is that of the last value
pub tracked_by : (olds news : List ValueKept) → map (λ (v : ValueKept). v.numbers) olds
    ≡ map (λ (v : ValueKept). v.numbers) news → number_at olds (length olds - 1)
    ≡ number_at news (length news - 1)
tracked_by olds news same =
    let one : (vs : List ValueKept) (k : ℕ) → number_at vs k
    ≡ signed_greatest (get_or (map (λ (v : ValueKept). v.numbers) vs) k []) = λ vs k. ap
    signed_greatest (sym (get_mapped (λ (v : ValueKept). v.numbers) vs k (no_value []))) in
    let many : length olds ≡ length news = sym (length-map olds (λ (v : ValueKept). v.numbers))
    ∙ ap length same ∙ length-map news (λ (v : ValueKept). v.numbers) in
    one olds (length olds - 1) ∙ (λ i. signed_greatest (get_or (same i) (many i - 1) []))
    ∙ sym (one news (length news - 1))

-- there are as many values as texts
pub rows_many : (m : MemberContents) (kept : MemberKept) → HasShape m kept → length kept.values ≡ length m.values
rows_many m kept fits =
    sym (length-map kept.values (λ (v : ValueKept). v.hits))
    ∙ as_many (map (λ (v : ValueKept). v.hits) kept.values) m.values value_hits fits.hits

-- boards
module _ (table : TableSeen) (id : ℕ) (format : Format) (b : BoardContents) (mid new : BoardRun)
    (c : Box MemberCounts Global)
    (is : IsBoardRun table.nodes b mid) (is_new : IsBoardRun table.nodes b new)
    (steps : StepsItem table (Ranks id format b) (Leaderboard mid) (Leaderboard new))
    (rested : BoardRested b c.value mid new)
    (start : Start) (image : List ℕ) (has : AreValuesAt table.nodes table.values (first_frame start image)) where
  abbrev m : MemberContents
  m = board_member b

  abbrev old : BoardKept
  old = board_kept mid

  abbrev now : BoardKept
  now = board_kept new

  abbrev owed_board : ℕ → BoardKept
  owed_board n = record { state = now.state; member = owed_member n old.member now.member }

  -- what is owed by bits is owed by the hits before the step and after it
  board_owes : (n : ℕ) → board_owed n c.value new ≡ kept_board (owed_board n)
  board_owes n =
      ap (λ k. kept_board (record { state = now.state; member = k }))
      (ap (λ bits. owed_member_by n bits now.member) rested.bits ∙ counted_owes_member n old.member now.member)

  abbrev h : History
  h = image ∷ []

  abbrev old_hits : List (List ℕ)
  old_hits = map (λ (v : ValueKept). v.hits) old.member.values

  fits_new : BoardFits b now
  fits_new = member_shape table.nodes m new.member is_new

  fits_old : BoardFits b old
  fits_old = member_shape table.nodes m mid.member is

  old_again : opened_board b (kept_board old) ≡ old
  old_again = board_again b old fits_old

  board_stepped : now ≡ board_next start b h old
  board_stepped =
      sym (board_again b now fits_new)
      ∙ ap (opened_board b) (steps.kept start image has)
      ∙ ap (λ k. opened_board b (kept_board (board_after start b k h))) old_again
      ∙ board_again b (board_after start b old h) (board_fits start b old h fits_old)

  tests_stepped : now.member.tests ≡ tests_next start m.tests h old.member.tests
  tests_stepped = ap (λ (k : BoardKept). k.member.tests) board_stepped

  state_stepped : now.state ≡ state_by old.state (tests_hold start m.tests h old.member.tests)
  state_stepped = ap (λ (k : BoardKept). k.state) board_stepped

  -- the values are stepped where an attempt runs, and else stay
  values_followed : now.member.values ≡ running_values start m.values h old.state now.state old.member.values
  values_followed =
      ap (λ (k : BoardKept). k.member.values) board_stepped
      ∙ ap (λ s. running_values start m.values h old.state s old.member.values) (sym state_stepped)

  begins_none : begins old.state now.state ≡ false
  begins_none = ap (begins old.state) rested.rests.state ∙ stays_begins old.state

  values_run : is_running now.state ≡ true → now.member.values ≡ values_next start m.values h old.member.values
  values_run runs =
      values_followed
      ∙ (λ i. if runs i then values_next start m.values h (if begins_none i then no_values m.values
      else old.member.values) else old.member.values)

  values_wait : is_running now.state ≡ false → now.member.values ≡ old.member.values
  values_wait waits =
      values_followed
      ∙ ap (λ r. if r then values_next start m.values h (if begins old.state now.state
      then no_values m.values else old.member.values) else old.member.values) waits

  values_many : length old.member.values ≡ length now.member.values
  values_many = rows_many m old.member fits_old ∙ sym (rows_many m now.member fits_new)

  -- the tracked number stays where an attempt runs
  tracked_same : is_started now.state ≡ true → tracked_number old ≡ tracked_number now
  tracked_same started =
      let numbers = keep_numbers m.values old.member.values now.member.values
      (rested.rests.values (started_runs now.state started)) in
      tracked_by old.member.values now.member.values numbers

  -- nothing is owed at once
  values_start : owed_values 0 old_hits now.member.values ≡ now.member.values
  values_start = by_run (is_running now.state) refl
    where
      by_run : (r : Bool) → is_running now.state ≡ r → owed_values 0 old_hits now.member.values ≡ now.member.values
      by_run true runs = values_owe_nothing start h m.values old.member.values now.member.values
          fits_old.hits (values_run runs) rested.small.values (rested.rests.values runs)
      by_run false waits = ap (owed_values 0 old_hits) (values_wait waits)
          ∙ values_stay 0 old.member.values ∙ sym (values_wait waits)

  pub board_starts : owed_run 0 (counts.Leaderboard c) (Leaderboard new) ≡ kept_run (Leaderboard new)
  board_starts =
      let tests = tests_owe_nothing start h m.tests old.member.tests now.member.tests fits_old.tests
      tests_stepped rested.small.tests rested.rests.tests in
      board_owes 0 ∙ (λ i. kept_board (record
      { state = now.state; member = record { tests = tests i; values = values_start i } }))

  module _ (start' : Start) (image' : List ℕ)
      (same : MemberSeesSame (first_frame start image) (first_frame start' image') m) (n : ℕ) where
    abbrev h' : History
    h' = image' ∷ []

    abbrev owes : BoardKept
    owes = owed_board n

    abbrev owes_more : BoardKept
    owes_more = owed_board (n + 1)

    state_later : state_by now.state (tests_hold start' m.tests h' owes.member.tests) ≡ now.state
    state_later =
        ap (state_by now.state) (tests_say_on (first_frame start image)
        (first_frame start' image') m.tests old.member.tests now.member.tests fits_old.tests
        same.tests tests_stepped rested.small.tests rested.rests.tests n)
        ∙ ap (λ s. state_by s (tests_hold start m.tests h old.member.tests)) rested.rests.state
        ∙ sym state_stepped

    tests_later : tests_next start' m.tests h' owes.member.tests ≡ owes_more.member.tests
    tests_later =
        tests_go_on (first_frame start image) (first_frame start' image') m.tests old.member.tests
        now.member.tests fits_old.tests same.tests tests_stepped rested.small.tests
        rested.rests.tests n

    values_later : running_values start' m.values h' now.state now.state owes.member.values ≡ owes_more.member.values
    values_later = by_run (is_running now.state) refl
      where
        by_run : (r : Bool) → is_running now.state ≡ r → running_values start' m.values h' now.state
            now.state owes.member.values ≡ owes_more.member.values
        by_run true runs =
            (λ i. if runs i then values_next start' m.values h' (if stays_begins now.state i
            then no_values m.values else owes.member.values) else owes.member.values)
            ∙ values_go_on (first_frame start image)
            (first_frame start' image') m.values old.member.values now.member.values fits_old.hits
            same.values (values_run runs) rested.small.values (rested.rests.values runs) n
        by_run false waits =
            ap (λ r. if r then values_next start' m.values h' (if begins now.state now.state
            then no_values m.values else owes.member.values) else owes.member.values) waits
            ∙ ap (owed_values n old_hits) (values_wait waits) ∙ values_stay n old.member.values
            ∙ sym (ap (owed_values (n + 1) old_hits) (values_wait waits) ∙ values_stay (n + 1) old.member.values)

    fits_owes : BoardFits b owes
    fits_owes = owed_fits n m old.member now.member fits_old fits_new

    board_later : board_after start' b (opened_board b (kept_board owes)) h' ≡ owes_more
    board_later =
        ap (λ k. board_after start' b k h') (board_again b owes fits_owes)
        ∙ (λ i. record {
          state = state_later i;
          member = record {
            tests = tests_later i;
            values = running_values start' m.values h' now.state (state_later i) owes.member.values;
          };
        })
        ∙ (λ i. record
        { state = now.state; member = record { tests = owes_more.member.tests; values = values_later i } })

    board_kept_later : item_after start' h'
        (Ranks id format b, owed_run n (counts.Leaderboard c) (Leaderboard new))
        ≡ owed_run (n + 1) (counts.Leaderboard c) (Leaderboard new)
    board_kept_later = ap (λ k. item_after start' h' (Ranks id format b, k)) (board_owes n)
        ∙ ap kept_board board_later ∙ sym (board_owes (n + 1))

    tracked_stays : tracked_number owes ≡ tracked_number now
    tracked_stays =
        tracked_by owes.member.values now.member.values (numbers_long n old.member.values now.member.values values_many)

  told_by_board : run_events (Ranks id format b) (Leaderboard new) ≡ []
  told_by_board =
      let K = kept_run (Leaderboard mid) in
      steps.events start image has
      ∙ nothing_unless (is_earned K) (item_events start image []) (Ranks id format b, K)
      (ap₂ (board_events id format) old_again (ap (λ k. board_after start b k h) old_again ∙ sym board_stepped)
      ∙ board_silent id format old now rested.rests.state tracked_same)

  pub board_rests_on : GoesOn table.nodes table.values (Ranks id format b) (counts.Leaderboard c) (Leaderboard new)
  board_rests_on = record {
    now = first_frame start image;
    at = has;
    kept = λ start' image' same n. board_kept_later start' image' same n;
    silent = λ start' image' same n.
        ap (λ k. item_events start' image' [] (Ranks id format b, k)) (board_owes n)
        ∙ ap₂ (board_events id format) (board_again b (owed_board n)
        (fits_owes start' image' same n)) (board_later start' image' same n)
        ∙ board_silent id format (owed_board n) (owed_board (n + 1)) refl
        (λ runs. tracked_stays start' image' same n ∙ sym (tracked_stays start' image' same (n + 1)));
    told = told_by_board;
  }

-- an item that rested at a step owes nothing at once, and goes on to rest
pub item_rests : (table : TableSeen) (item : ItemContents) (c : ItemCounts) (mid new : ItemRun)
    → IsItemRun table.nodes item mid → IsItemRun table.nodes item new
    → StepsItem table item mid new → Rested item c mid new
    → (start : Start) (image : List ℕ) → AreValuesAt table.nodes table.values (first_frame start image)
    → (owed_run 0 c new ≡ kept_run new) × GoesOn table.nodes table.values item c new
item_rests table (Unlocks id t) (counts.Achievement c) (Achievement mid)
    (Achievement new) is is_new steps rested start image has = (
      achievement_starts table id t mid new c is.hits steps rested start image has,
      achievement_rests_on table id t mid new c is.hits steps rested start image has,
    )
item_rests table (Unlocks id t) (counts.Leaderboard c) mid new is is_new steps rested start image has = absurd rested
item_rests table (Unlocks id t) (counts.Achievement c)
    (Leaderboard mid) new is is_new steps rested start image has = absurd is
item_rests table (Unlocks id t) (counts.Achievement c) (Achievement mid)
    (Leaderboard new) is is_new steps rested start image has = absurd is_new
item_rests table (Ranks id format b) (counts.Leaderboard c) (Leaderboard mid)
    (Leaderboard new) is is_new steps rested start image has = (
      board_starts table id format b mid new c is is_new steps rested start image has,
      board_rests_on table id format b mid new c is is_new steps rested start image has,
    )
item_rests table (Ranks id format b)
    (counts.Achievement c) mid new is is_new steps rested start image has = absurd rested
item_rests table (Ranks id format b) (counts.Leaderboard c)
    (Achievement mid) new is is_new steps rested start image has = absurd is
item_rests table (Ranks id format b) (counts.Leaderboard c) (Leaderboard mid)
    (Achievement new) is is_new steps rested start image has = absurd is_new
