-- Which conditions of items counted at a frame, what these owe while they rest, and when they do: docs/INTERNALS.md,
-- "Items at rest".
use Rattle.std.specs.Prelude.{◌≡◌, ℕ, ◌+◌, Bool, true, Option, None, Some, List, [], ◌∷◌, length}
use Rattle.ra_condition.specs.Contents.{TriggerContents, groups_of}
use Rattle.ra_group.specs.declared.form.Form.TheVariants.{InTrigger}
use Rattle.ra_indirect.specs.declared.node.Node.{Node}
use Rattle.ra_memref.specs.Table.{TableSeen}
use Rattle.ra_memref.specs.Values.{Start}
use Rattle.ra_leaderboard.specs.Contents.{BoardContents}
use Rattle.ra_leaderboard.specs.States.{is_running}
use Rattle.ra_set.specs.Contents.{ItemContents, Unlocks, Ranks}
use Rattle.ra_trigger.specs.Steps.{TriggerKept}
use Rattle.ra_schedule.specs.Groups.{groups_keep}
use Rattle.ra_progress.specs.Contents.{KeptItem}
use Rattle.ra_member.specs.Runs.{HasValues}
use Rattle.ra_member.specs.MemberRuns.{kept_by}
use Rattle.ra_schedule.specs.declared.member_counts.MemberCounts.{MemberCounts}
use Rattle.ra_schedule.specs.Counted.{CountsFit, CountsSeen, all_keep_by, counted, counted_member, free_in, owed_by}
use Rattle.ra_schedule.specs.Counted.{owed_member_by}
use Rattle.ra_schedule.specs.Counts.{AreFor, Holds, IsFor, Judges, counts_of, held}
use Rattle.ra_schedule.specs.Inputs.{Instant, SeeSame, MemberSeesSame}
use Rattle.ra_truths.specs.declared.comparison.Comparison.{Comparison}
use Rattle.ra_schedule.specs.Owing.{AreHitsSmall, AreSmall, TestsKeep, ValuesKeep}
use Rattle.ra_schedule.specs.Readers.{ReadersSeen}
use Rattle.ra_schedule.specs.Waking.{IsTold}
use Rattle.ra_meaning.specs.declared.event.Event.{Event}
use Rattle.ra_items.specs.declared.item_run.ItemRun.{ItemRun}
use Rattle.ra_items.specs.declared.item_run.ItemRun.TheVariants.{Achievement, Leaderboard}
use Rattle.ra_items.specs.declared.rest.ItemCounts.{ItemCounts}
use Rattle.ra_items.specs.declared.rest.ItemCounts.TheVariants as counts
use Rattle.ra_items.specs.declared.achievement_run.AchievementRun.{AchievementRun}
use Rattle.ra_items.specs.declared.board_run.BoardRun.{BoardRun}
use Rattle.ra_items.specs.declared.rooms.Rooms.{Rooms}
use Rattle.ra_meaning.specs.Boards.{BoardKept, kept_board}
use Rattle.ra_items.specs.BoardRuns.{board_kept}
use Rattle.ra_items.specs.ItemRuns.{IsItemRun, StepsItem, kept_run}
use Rattle.ra_meaning.specs.Openings.{item_after, kept_achievement}
use Rattle.ra_meaning.specs.Order.{board_member}
use Rattle.ra_meaning.specs.Earned.{is_earned}
use Rattle.ra_meaning.specs.Play.{item_events, unless_earned}
use Rattle.ra_items.specs.RunEvents.{run_events}
pub use Rattle.ra_schedule.specs.Waking.{AreValuesAt, first_frame}

-- what an achievement keeps after n frames more at rest, where these of its conditions count
abbrev pub trigger_owed : ℕ → CountsSeen → AchievementRun → KeptItem
trigger_owed n c run = kept_achievement run.earned
    (record run.run.trigger { hits = owed_by n c.counted run.run.trigger.hits })

-- the same of a board
abbrev pub board_owed : ℕ → MemberCounts → BoardRun → KeptItem
board_owed n c run = kept_board
    (record { state = run.board; member = owed_member_by n (counts_of c) (kept_by run.member) })

-- what an item keeps after n frames more at rest, where these of its conditions count
abbrev pub owed_run : ℕ → ItemCounts → ItemRun → KeptItem
owed_run n (counts.Achievement c) (Achievement run) = trigger_owed n c run
owed_run n (counts.Leaderboard c) (Leaderboard run) = board_owed n c.value run
owed_run n _ run = kept_run run

-- what an item is seen to keep, where it owes this many frames, or does not rest
abbrev pub seen_run : ItemRun → ItemCounts → Option ℕ → KeptItem
seen_run run b None = kept_run run
seen_run run b (Some frames) = owed_run frames b run

-- there is a bit for each condition of an item
abbrev pub HasRoom : ItemContents → ItemCounts → Type 0
HasRoom (Unlocks id t) (counts.Achievement c) = IsFor (free_in InTrigger (groups_of t)) c
HasRoom (Ranks id format b) (counts.Leaderboard c) = AreFor (board_member b) c.value
HasRoom _ _ = ⊥

-- a room holds what an achievement keeps, whose hits are of 32 bits
pub record HoldsTrigger (rooms : Rooms) (run : AchievementRun) : Type 0 where
  pub state : rooms.state ≡ run.run.trigger.state
  pub measured : rooms.measured ≡ run.run.trigger.measured
  pub hits : rooms.hits.items ≡ run.run.trigger.hits
  pub small : AreSmall run.run.trigger.hits

-- a room holds what a board keeps
pub record HoldsBoard (rooms : Rooms) (run : BoardRun) : Type 0 where
  pub state : rooms.board ≡ run.board
  pub member : Holds rooms.member (kept_by run.member)

-- an achievement keeps its state and its measured number at a frame, and each of its conditions its hits, or is free
-- and has one more
pub record TriggerRests (t : TriggerContents) (old new : TriggerKept) : Type 0 where
  pub state : new.state ≡ old.state
  pub measured : new.measured ≡ old.measured
  pub hits : groups_keep InTrigger (groups_of t) old.hits new.hits ≡ true

-- a board keeps its state at a frame, and its tests, and its values where an attempt runs, keep all but free hits
pub record BoardRests (b : BoardContents) (old new : BoardKept) : Type 0 where
  pub state : new.state ≡ old.state
  pub tests : TestsKeep (board_member b).tests old.member.tests new.member.tests
  pub values : is_running new.state ≡ true → ValuesKeep (board_member b).values old.member.values new.member.values

-- it is noted which conditions of an achievement counted at a step, and said whether it rested, by what a room holds
pub record JudgesTrigger (old new : CountsSeen) (rooms : Rooms) (run : AchievementRun) (rests : Bool) : Type 0 where
  pub free : new.free ≡ old.free
  pub bits : new.counted ≡ counted rooms.hits.items run.run.trigger.hits
  pub keeps : rests ≡ true → all_keep_by old.free rooms.hits.items run.run.trigger.hits ≡ true
  pub state : rests ≡ true → run.run.trigger.state ≡ rooms.state
  pub measured : rests ≡ true → run.run.trigger.measured ≡ rooms.measured

-- the same of a board
pub record JudgesBoard (old new : MemberCounts) (rooms : Rooms) (run : BoardRun) (rests : Bool) : Type 0 where
  pub tests_told : Bool
  pub values_told : Bool
  pub judges : Judges old new (held rooms.member (kept_by run.member)) (kept_by run.member)
      (record { tests = tests_told; values = values_told })
  pub tests : rests ≡ true → tests_told ≡ true
  pub values : rests ≡ true → is_running run.board ≡ true → values_told ≡ true
  pub state : rests ≡ true → run.board ≡ rooms.board

-- an achievement rested at a step: it kept all but free hits, and the bits say which of these counted
pub record TriggerRested (t : TriggerContents) (c : CountsSeen) (old new : AchievementRun) : Type 0 where
  pub bits : c.counted ≡ counted old.run.trigger.hits new.run.trigger.hits
  pub small : AreSmall old.run.trigger.hits
  pub rests : TriggerRests t old.run.trigger new.run.trigger

-- the same of a board
pub record BoardRested (b : BoardContents) (c : MemberCounts) (old new : BoardRun) : Type 0 where
  pub bits : counts_of c ≡ counted_member (kept_by old.member) (kept_by new.member)
  pub small : AreHitsSmall (kept_by old.member)
  pub rests : BoardRests b (board_kept old) (board_kept new)

-- an item rested at a step
abbrev pub Rested : ItemContents → ItemCounts → (old new : ItemRun) → Type 0
Rested (Unlocks id t) (counts.Achievement c) (Achievement old) (Achievement new) = TriggerRested t c old new
Rested (Ranks id format b) (counts.Leaderboard c) (Leaderboard old) (Leaderboard new) = BoardRested b c.value old new
Rested _ _ _ _ = ⊥

-- an item sees the same at two instants
abbrev pub ItemSeesSame : (now later : Instant) → ItemContents → Type 0
ItemSeesSame now later (Unlocks id t) = SeeSame InTrigger now later (groups_of t)
ItemSeesSame now later (Ranks id format b) = MemberSeesSame now later (board_member b)

-- a reader is told of all that an item sees
abbrev pub IsToldOf : List Node → List Comparison → ReadersSeen → ItemContents → (reader : ℕ) → Type 0
IsToldOf nodes comparisons readers item reader =
    IsTold (λ now later. ItemSeesSame now later item) nodes comparisons readers reader

-- While an item sees what it sees at these values, each frame more adds to what it owes, and it tells nothing.
pub record GoesOn (nodes : List Node) (values : List ℕ) (item : ItemContents) (b : ItemCounts)
    (run : ItemRun) : Type 0 where
  pub now : Instant
  pub at : AreValuesAt nodes values now
  pub kept : (start : Start) (image : List ℕ) → ItemSeesSame now (first_frame start image) item
      → (n : ℕ) → item_after start (image ∷ []) (item, owed_run n b run) ≡ owed_run (n + 1) b run
  pub silent : (start : Start) (image : List ℕ) → ItemSeesSame now (first_frame start image) item
      → (n : ℕ) → item_events start image [] (item, owed_run n b run) ≡ []
  pub told : run_events item run ≡ []

-- there is a bit for each hit that a run keeps
abbrev pub FitsRun : ItemCounts → ItemRun → Type 0
FitsRun (counts.Achievement c) (Achievement run) = length c.counted ≡ length run.run.trigger.hits
FitsRun (counts.Leaderboard c) (Leaderboard run) = CountsFit (counts_of c.value) (kept_by run.member)
FitsRun _ _ = ⊥

-- an item is stepped with what it owes paid, and it is noted which of its conditions counted where it rests
pub record StepsRest (table : TableSeen) (item : ItemContents) (seen : KeptItem) (rests : Bool)
    (c : ItemCounts) (new : ItemRun) : Type 0 where
  pub mid : ItemRun
  pub is : IsItemRun table.nodes item mid
  pub kept : kept_run mid ≡ seen
  pub rested : rests ≡ true → Rested item c mid new
  pub steps : StepsItem table item mid new

-- one frame of an item, from what it is seen to keep: what it is seen to keep after it, and what it tells
pub record StepsSeen (table : TableSeen) (item : ItemContents) (old new : KeptItem) (told : List Event) : Type 0 where
  pub kept : (start : Start) (image : List ℕ) → HasValues table start (image ∷ []) → new
      ≡ item_after start (image ∷ []) (item, old)
  pub events : (start : Start) (image : List ℕ) → HasValues table start (image ∷ []) → told
      ≡ unless_earned (item_events start image []) (is_earned old, (item, old))

-- an item is one with its plans where the old one was
abbrev pub StaysItem : (old new : ItemRun) → Type 0
StaysItem old new = (nodes : List Node) (item : ItemContents) → IsItemRun nodes item old → IsItemRun nodes item new
