-- What a set tells and prints over the records of a trace: docs/DEFINITIONS.md, "Events", "Frames that lie behind" and
-- "Printed lines".
use Rattle.std.specs.Prelude.{ℕ, ◌&&◌, not, Bool, true, false, Option, None, Some, List, [], ◌∷◌, ◌++◌, length, map}
use Rattle.std.specs.Prelude.{replicate, zip, codes, decimal, slice_set, slice_index_or}
use Rattle.std.specs.List.{flat_map, concat}
use Rattle.ra_set.specs.Contents.{ItemContents, Unlocks, Ranks, SetContents}
use Rattle.ra_richpresence.specs.Contents.{ScriptContents}
use Rattle.ra_memory.specs.Image.{History, written}
use Rattle.ra_memref.specs.Values.{Start}
use Rattle.ra_progress.specs.Contents.{KeptItem, KeptPresence, Opening}
use Rattle.ra_trace.specs.Entries.{Entry, Written, Framed, Saved, Restored, Shown, Ended}
use Rattle.ra_trigger.specs.States.{is_triggered}
use Rattle.ra_meaning.specs.Earned.{Earned, both_earned, with_earned}
use Rattle.ra_meaning.specs.Histories.{achievement_after}
use Rattle.ra_meaning.specs.Boards.{board_after, opened_board}
use Rattle.ra_meaning.specs.Presence.{presence_text}
use Rattle.ra_meaning.specs.declared.event.Event.{Event}
use Rattle.ra_meaning.specs.Events.{achievement_events, board_events}
use Rattle.ra_meaning.specs.Lines.{line_of, event_lines}
use Rattle.ra_meaning.specs.Openings.{start_of, opened_achievement, frames_after, snapshot}

-- the events of one item at the last frame, by what it keeps after the history and after that without its last image
abbrev pub item_events : Start → (image : List ℕ) → (earlier : History) → ItemContents × KeptItem → List Event
item_events start image earlier (Unlocks id t, opened) =
    let after = achievement_after start t (opened_achievement opened) in
    achievement_events id (after earlier) (after (image ∷ earlier))
item_events start image earlier (Ranks id format b, opened) =
    let after = board_after start b (opened_board b opened) in
    board_events id format (after earlier) (after (image ∷ earlier))

-- what is told of an item, which is nothing where it is earned
abbrev pub unless_earned : {A : Type 0} → (ItemContents × KeptItem → List A) → Bool × (ItemContents × KeptItem) → List A
unless_earned told (true, item) = []
unless_earned told (false, item) = told item

-- the events of a set at the last frame, items in set order, without those of what was earned before it
abbrev pub events : SetContents → Opening → History → Earned → List Event
events set o [] earned = []
events set o (image ∷ earlier) earned =
    flat_map (unless_earned (item_events (start_of set o) image earlier)) (zip earned (zip set.items o.items))

-- the lines of a set at the last frame, those of its events; its number is the count before it
abbrev pub lines : SetContents → Opening → History → Earned → List ℕ
lines set o [] earned = []
lines set o (image ∷ earlier) earned =
    event_lines (frames_after o.frames (length earlier)) (events set o (image ∷ earlier) earned)

-- whether an item unlocks at the last frame: an achievement that was not triggered and now is
abbrev pub unlocks : Start → (image : List ℕ) → (earlier : History) → ItemContents × KeptItem → Bool
unlocks start image earlier (Unlocks id t, opened) =
    let after = achievement_after start t (opened_achievement opened) in
    not (is_triggered (after earlier).state) && is_triggered (after (image ∷ earlier)).state
unlocks start image earlier (Ranks id format b, opened) = false

-- what is earned after the last frame: what was before it, and what unlocks there
abbrev pub earns : SetContents → Opening → History → Earned → Earned
earns set o [] earned = earned
earns set o (image ∷ earlier) earned =
    both_earned earned (map (unlocks (start_of set o) image earlier) (zip set.items o.items))

-- the presence line after a history, with the count of frames
abbrev pub shown_by : Start → (count : ℕ) → History → Option ScriptContents → Option KeptPresence → List ℕ
shown_by start count history (Some script) (Some opened) =
    line_of (codes "presence" ∷ decimal count ∷ presence_text start script opened history ∷ [])
shown_by start count history _ _ = []

-- the line that is shown after a history
abbrev pub shown : SetContents → Opening → History → List ℕ
shown set o history = shown_by (start_of set o) (frames_after o.frames (length history)) history set.script o.presence

-- a moment of a trace: the image, the frames that lie behind, and those that each filled slot has kept
pub record Moment : Type 0 where
  pub image : List ℕ
  pub behind : History
  pub slots : List (Option History)

-- the frames of a slot, and these where it is empty
abbrev pub kept_in : Option History → History → History
kept_in None behind = behind
kept_in (Some kept) behind = kept

-- the moment after a record
abbrev pub moved : Entry → Moment → Moment
moved (Written at bytes) m = record m { image = written m.image at bytes }
moved Framed m = record m { behind = m.image ∷ m.behind }
moved (Saved slot) m = record m { slots = slice_set m.slots slot (Some m.behind) }
moved (Restored slot) m = record m { behind = kept_in (slice_index_or m.slots slot None) m.behind }
moved Shown m = m
moved Ended m = m

-- what a record prints, by the moment after it and what was earned before it
abbrev pub printed : SetContents → Opening → Entry → Moment → Earned → List ℕ
printed set o Framed m earned = lines set o m.behind earned
printed set o Shown m earned = shown set o m.behind
printed set o _ m earned = []

-- what is earned after a record, by the moment after it: a frame may earn more, and no other record changes it
abbrev pub earned_next : SetContents → Opening → Entry → Moment → Earned → Earned
earned_next set o Framed m earned = earns set o m.behind earned
earned_next set o _ m earned = earned

-- the moment before the first record: an image of zeros, empty slots, and these frames before
abbrev pub first_moment : ℕ → History → Moment
first_moment size behind = record { image = replicate size 0; behind = behind; slots = replicate 16 None }

-- the moment after some records
abbrev pub moment_after : Moment → List Entry → Moment
moment_after m [] = m
moment_after m (entry ∷ entries) = moment_after (moved entry m) entries

-- what is earned after some records
abbrev pub earned_after : SetContents → Opening → Moment → Earned → List Entry → Earned
earned_after set o m earned [] = earned
earned_after set o m earned (entry ∷ entries) =
    earned_after set o (moved entry m) (earned_next set o entry (moved entry m) earned) entries

-- what each of these records prints, played one after the other from a moment on, at which this is earned
abbrev pub pieces_from : SetContents → Opening → Moment → Earned → List Entry → List (List ℕ)
pieces_from set o m earned [] = []
pieces_from set o m earned (entry ∷ entries) =
    printed set o entry (moved entry m) earned
    ∷ pieces_from set o (moved entry m) (earned_next set o entry (moved entry m) earned) entries

-- the text of a trace over a memory of this size, where an opening and some frames lie before it and this is earned
abbrev pub text_of : SetContents → Opening → History → Earned → ℕ → List Entry → List ℕ
text_of set o behind earned size entries = concat (pieces_from set o (first_moment size behind) earned entries)

-- the frames that count at the end of a trace
abbrev pub behind_end : History → ℕ → List Entry → History
behind_end behind size entries = (moment_after (first_moment size behind) entries).behind

-- what is earned at the end of a trace
abbrev pub earned_end : SetContents → Opening → History → Earned → ℕ → List Entry → Earned
earned_end set o behind earned size entries = earned_after set o (first_moment size behind) earned entries

-- the opening that is saved after the end of a trace
abbrev pub saved_end : SetContents → Opening → History → Earned → ℕ → List Entry → Opening
saved_end set o behind earned size entries =
    with_earned (snapshot set o (behind_end behind size entries)) (earned_end set o behind earned size entries)
