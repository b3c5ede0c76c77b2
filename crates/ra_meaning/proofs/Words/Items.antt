-- Items after a history keep numbers of 32 bits, as many as their texts say.
use Rattle.std.proofs.Common.{◌≡◌, ℕ, ◌≤◌, ◌||◌, arith, Bool, true, false, if◌then◌else◌, List, [], ◌∷◌, length, map}
use Rattle.std.proofs.Common.{refl, sym, ◌∙◌, zip, lit≤}
use Rattle.std.specs.List.{AllByRecursion}
use Rattle.std.proofs.lemmas.List.{length-replicate}
use Rattle.ra_condition.specs.Contents.{TriggerContents, groups_of, trigger_hits, PartContents}
use Rattle.ra_memory.specs.Image.{History, AreImages}
use Rattle.ra_memref.specs.Values.{Start}
use Rattle.ra_trigger.specs.declared.state.State.{State}
use Rattle.ra_trigger.specs.declared.state.State.TheVariants.{Waiting, Active, Paused, Primed, Triggered}
use Rattle.ra_trigger.specs.States.{state_byte, is_triggered, is_cleared}
use Rattle.ra_trigger.specs.Steps.{Together, together, cleared, TriggerKept, kept_after, step as trigger_step}
use Rattle.ra_value.specs.Steps.{ValueKept}
use Rattle.ra_leaderboard.specs.declared.state.BoardState.{BoardState}
use Rattle.ra_leaderboard.specs.declared.state.BoardState.TheVariants as boards
use Rattle.ra_leaderboard.specs.Contents.{BoardContents}
use Rattle.ra_leaderboard.specs.States.{board_byte, is_running, begins}
use Rattle.ra_set.specs.Contents.{ItemContents, Unlocks, Ranks}
use Rattle.ra_progress.specs.Contents.{KeptItem, OfAchievement, OfBoard, ItemFits, ItemsFit}
use Rattle.ra_member.specs.Frames.{lefts_at, truths_at}
use Rattle.ra_member.specs.Members.{no_values, values_next}
use Rattle.ra_member.proofs.Opened.{saved_long}
use Rattle.ra_member.proofs.Shaped.{length_truth}
use Rattle.ra_meaning.specs.Order.{board_member, item_shape}
use Rattle.ra_meaning.specs.Histories.{achievement_after}
use Rattle.ra_meaning.specs.Boards.{BoardKept, running_values, board_next, board_after, opened_board}
use Rattle.ra_meaning.specs.Openings.{opened_achievement, item_after}
use Rattle.ra_meaning.proofs.Counts.Fitting.{board_fits}
use Rattle.ra_meaning.proofs.Openings.Fits.{opened_fits}
use Rattle.ra_meaning.proofs.Words.Trees.{AreStartWords}
use Rattle.ra_meaning.proofs.Words.Groups.{AreTriggerWords, step_words, AreValueWords}
use Rattle.ra_meaning.proofs.Words.Members.{FitsTrigger, FitsValue, FitsMember, AreMemberWords, opened_words}
use Rattle.ra_meaning.proofs.Words.Members.{saved_words, no_values_words, lefts_words, tests_words, values_words}

-- the operands of an item are of 32 bits
abbrev pub FitsItem : ItemContents → Type 0
FitsItem (Unlocks id t) = FitsTrigger t
FitsItem (Ranks id format b) = FitsMember (board_member b)

length_cleared : (b : Bool) (hits : List ℕ) → length (if b then cleared hits else hits) ≡ length hits
length_cleared true hits = length-replicate (length hits) 0
length_cleared false hits = refl

-- a step keeps a hit for each condition
length_step : (t : TriggerContents) (truths : List Bool) (lefts : List ℕ) (old : TriggerKept)
    → length old.hits ≡ trigger_hits t → length (trigger_step t truths lefts old).hits
    ≡ trigger_hits t
length_step t truths lefts old long =
    let now : Together = together t truths lefts old.hits in
    let both : length now.hits ≡ trigger_hits t = sym (length_cleared now.reset now.hits)
    ∙ length_truth t truths lefts old.hits in
    elim (is_triggered old.state) as (λ b. length (if b then old else kept_after old now).hits ≡ trigger_hits t) [
      | true ↦ long
      | false ↦ length_cleared (is_cleared old.state now.reset now.valid) now.hits ∙ both
    ]

length_achievement : (start : Start) (t : TriggerContents) (opened : TriggerKept) (h : History)
    → length opened.hits ≡ trigger_hits t → length (achievement_after start t opened h).hits
    ≡ trigger_hits t
length_achievement start t opened [] long = long
length_achievement start t opened (image ∷ earlier) long =
    length_step t (truths_at start (image ∷ earlier) (groups_of t))
    (lefts_at start (image ∷ earlier) (groups_of t)) (achievement_after start t opened earlier)
    (length_achievement start t opened earlier long)

-- the byte of a state is in its table
pub state_within : (state : State) → state_byte state ≤ 4
state_within Waiting = lit≤ tt
state_within Active = lit≤ tt
state_within Paused = lit≤ tt
state_within Primed = lit≤ tt
state_within Triggered = lit≤ tt

-- what is triggered is earned
pub earned_where_triggered : (earned : Bool) (state : State) → state_byte state ≡ 4
    → (earned || is_triggered state) ≡ true
earned_where_triggered true state four = refl
earned_where_triggered false Waiting four = absurd (omega (arith, four))
earned_where_triggered false Active four = absurd (omega (arith, four))
earned_where_triggered false Paused four = absurd (omega (arith, four))
earned_where_triggered false Primed four = absurd (omega (arith, four))
earned_where_triggered false Triggered four = refl

pub board_state_within : (state : BoardState) → board_byte state ≤ 4
board_state_within boards.Waiting = lit≤ tt
board_state_within boards.Active = lit≤ tt
board_state_within boards.Started = lit≤ tt
board_state_within boards.Cancelled = lit≤ tt
board_state_within boards.Submitted = lit≤ tt

module _ (start : Start) (start_words : AreStartWords start) where
  achievement_words : (t : TriggerContents) → FitsTrigger t → (opened : TriggerKept)
      → AreTriggerWords opened → (h : History) → AreImages h
      → AreTriggerWords (achievement_after start t opened h)
  achievement_words t fits opened words [] images = words
  achievement_words t fits opened words (image ∷ earlier) images =
      let h = image ∷ earlier in
      step_words t (truths_at start h (groups_of t)) (lefts_at start h (groups_of t))
      (lefts_words start start_words h images (groups_of t) fits) (achievement_after start t opened
      earlier) (achievement_words t fits opened words earlier images.1)

  running_words : (values : List (List PartContents)) → AllByRecursion FitsValue values
      → (h : History) → AreImages h → (old new : BoardState) (kept : List ValueKept)
      → AllByRecursion AreValueWords kept
      → AllByRecursion AreValueWords (running_values start values h old new kept)
  running_words values fits h images old new kept words =
      elim (is_running new) as (λ b. AllByRecursion AreValueWords (if b then values_next start
      values h (if begins old new then no_values values else kept) else kept)) [
        | true ↦ values_words start start_words h images values fits
            (if begins old new then no_values values else kept)
            (elim (begins old new) as (λ b. AllByRecursion AreValueWords (if b then no_values values
            else kept)) [ true ↦ no_values_words values | false ↦ words ])
        | false ↦ words
      ]

  board_words : (b : BoardContents) → FitsMember (board_member b) → (opened : BoardKept)
      → AreMemberWords opened.member → (h : History) → AreImages h
      → AreMemberWords (board_after start b opened h).member
  board_words b fits opened words [] images = words
  board_words b fits opened words (image ∷ earlier) images =
      let h = image ∷ earlier in
      let m = board_member b in
      let old = board_after start b opened earlier in
      let before = board_words b fits opened words earlier images.1 in
      record {
        tests = tests_words start start_words h images m.tests fits.tests old.member.tests before.tests;
        values = running_words m.values fits.values h images old.state
            (board_next start b h old).state old.member.values before.values;
      }

  pub item_fits : (item : ItemContents) → FitsItem item → (kept : KeptItem)
      → ItemFits (item_shape item) kept → (h : History) → AreImages h
      → ItemFits (item_shape item) (item_after start h (item, kept))
  item_fits (Unlocks id t) fits (OfAchievement state measured hits earned) is h images =
      let opened = opened_achievement (OfAchievement state measured hits earned) in
      let words = achievement_words t fits opened (record { measured = is.2; hits = is.3.fit }) h images in
      let last = (achievement_after start t opened h).state in (
        state_within last,
        earned_where_triggered earned last,
        words.measured,
        record { as_many = length_achievement start t opened h is.3.as_many; fit = words.hits },
      )
  item_fits (Unlocks id t) fits (OfBoard state hits numbers) is h images = absurd is
  item_fits (Ranks id format b) fits (OfAchievement state measured hits earned) is h images = absurd is
  item_fits (Ranks id format b) fits (OfBoard state hits numbers) is h images =
      let kept = OfBoard state hits numbers in
      let opened = opened_board b kept in
      let after = board_after start b opened h in
      let words = saved_words after.member (board_words b fits opened
      (opened_words (board_member b) hits numbers is.1.fit is.2.fit) h images) in
      let long = saved_long (board_member b) after.member
      (board_fits start b opened h (opened_fits b id format kept is)) in (
        board_state_within after.state,
        record { as_many = long.0; fit = words.0 },
        record { as_many = long.1; fit = words.1 },
      )

  pub items_fit : (items : List ItemContents) → AllByRecursion FitsItem items
      → (kept : List KeptItem) → ItemsFit (map item_shape items) kept → (h : History) → AreImages h
      → ItemsFit (map item_shape items) (map (item_after start h) (zip items kept))
  items_fit [] fits [] is h images = tt
  items_fit [] fits (k ∷ kept) is h images = absurd is
  items_fit (item ∷ items) fits [] is h images = absurd is
  items_fit (item ∷ items) fits (k ∷ kept) is h images =
      (item_fits item fits.0 k is.0 h images, items_fit items fits.1 kept is.1 h images)
