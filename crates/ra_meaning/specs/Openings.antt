-- What stands before the first frame of a set, and the opening after a history: docs/DEFINITIONS.md, "Openings and
-- snapshots".
use Rattle.std.specs.Prelude.{ℕ, ◌+◌, ◌-◌, ◌^◌, min, ◌||◌, Bool, Option, None, Some, if◌then◌else◌, List, [], ◌∷◌}
use Rattle.std.specs.Prelude.{length, map, drop, zip, slice_index}
use Rattle.ra_richpresence.specs.Contents.{ScriptContents}
use Rattle.ra_set.specs.Contents.{ItemContents, Unlocks, Ranks, SetContents}
use Rattle.ra_memory.specs.Image.{History}
use Rattle.ra_indirect.specs.Trees.{Cell, Tracked, same_cell, same_tracked}
use Rattle.ra_memref.specs.Values.{Start, cell_number, tracked_number}
use Rattle.ra_trigger.specs.States.{state_byte, state_of, is_triggered}
use Rattle.ra_trigger.specs.Steps.{TriggerKept}
use Rattle.ra_progress.specs.Contents.{KeptItem, OfAchievement, OfBoard, KeptPresence, Opening, plain_of}
use Rattle.ra_meaning.specs.Earned.{is_earned}
use Rattle.ra_meaning.specs.Order.{set_cells, set_tracked, shape_of}
use Rattle.ra_meaning.specs.Histories.{achievement_after}
use Rattle.ra_meaning.specs.Boards.{board_after, opened_board, kept_board}
use Rattle.ra_meaning.specs.Presence.{presence_after}

-- the number beside a cell, of cells and numbers in the same order; 0 for a cell that is not among them
abbrev pub number_beside : List Cell → List ℕ → Cell → ℕ
number_beside [] numbers c = 0
number_beside (d ∷ cells) numbers c =
    if same_cell d c then slice_index numbers 0 else number_beside cells (drop 1 numbers) c

-- the number beside a tracked mask, of masks and numbers in the same order; 0 for one that is not among them
abbrev pub prior_beside : List Tracked → List ℕ → Tracked → ℕ
prior_beside [] numbers t = 0
prior_beside (s ∷ tracked) numbers t =
    if same_tracked s t then slice_index numbers 0 else prior_beside tracked (drop 1 numbers) t

-- the numbers that an opening gives the cells and the tracked masks of a set
abbrev pub start_of : SetContents → Opening → Start
start_of set o = record {
  number = number_beside (set_cells set) o.cells;
  prior = prior_beside (set_tracked set) o.priors;
}

-- what an opening keeps for an achievement
abbrev pub opened_achievement : KeptItem → TriggerKept
opened_achievement (OfAchievement state measured hits earned) =
    record { state = state_of state; measured = measured; hits = hits }
opened_achievement (OfBoard state hits numbers) = record { state = state_of state; measured = 0; hits = hits }

-- an achievement as a progress file keeps it: earned where it was, or where it is triggered
abbrev pub kept_achievement : Bool → TriggerKept → KeptItem
kept_achievement earned k = OfAchievement (state_byte k.state) k.measured k.hits (earned || is_triggered k.state)

-- what is kept of an item after a history, from what the opening keeps
abbrev pub item_after : Start → History → ItemContents × KeptItem → KeptItem
item_after start history (Unlocks id t, opened) =
    kept_achievement (is_earned opened) (achievement_after start t (opened_achievement opened) history)
item_after start history (Ranks id format b, opened) =
    kept_board (board_after start b (opened_board b opened) history)

-- what is kept of a display that may be missing, after a history
abbrev pub optional_presence : Start → History → Option ScriptContents → Option KeptPresence → Option KeptPresence
optional_presence start history (Some script) (Some opened) = Some (presence_after start script opened history)
optional_presence start history _ _ = None

-- a count of frames stops at the last number of 64 bits
abbrev pub frames_after : ℕ → ℕ → ℕ
frames_after count more = min (count + more) (2 ^ 64 - 1)

-- the opening after a history
abbrev pub snapshot : SetContents → Opening → History → Opening
snapshot set o history =
    let start = start_of set o in
    record {
      frames = frames_after o.frames (length history);
      cells = map (λ c. cell_number start c history) (set_cells set);
      priors = map (λ t. tracked_number start t history) (set_tracked set);
      items = map (item_after start history) (zip set.items o.items);
      presence = optional_presence start history set.script o.presence;
    }

-- the opening of a set that was never played
abbrev pub plain_opening : SetContents → Opening
plain_opening set = plain_of (shape_of set)
