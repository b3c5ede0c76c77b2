-- What is kept of lines while they are read: the step between the code and docs/DEFINITIONS.md, "Set file" and
-- "Repeated ids".
use Rattle.std.specs.Prelude.{◌≡◌, ℕ, ◌+◌, ◌||◌, if◌then◌else◌, Bool, List, length, map, Option, Some, None, Result, Ok}
use Rattle.std.specs.Prelude.{Err}
use Rattle.std.specs.List.{IsDistinct, list_any}
use Rattle.ra_condition.specs.declared.fault.Fault.{Fault}
use Rattle.ra_condition.specs.declared.fault.Fault.TheVariants.{Stop, Memory}
use Rattle.ra_set.specs.declared.file_lines.FileLines.{FileLines}
use Rattle.ra_set.specs.declared.ids.Ids.{Ids}
use Rattle.ra_set.specs.declared.kept_lines.KeptLines.{KeptLines}
use Rattle.ra_set.specs.declared.kept_lines.Repeat.{Repeat}
use Rattle.ra_set.specs.declared.seen_ids.SeenIds.{SeenIds}
use Rattle.ra_set.specs.Accepted.{repeats}
use Rattle.ra_set.specs.Contents.{ItemContents, Unlocks, Ranks, item_contents}
use Rattle.ra_set.specs.Grammar.{Line, items_of}
use Rattle.ra_set.specs.Refusals.{FirstRepeat, id_of}
use Rattle.ra_set.specs.Seen.{is_among}
use Rattle.ra_text.specs.Reading.{Outcome}

-- an id came
abbrev pub is_seen : SeenIds → ℕ → Bool
is_seen seen id = is_among seen.rising.items seen.earlier id

-- the id of an item is among those of its letter
abbrev pub has_id : Ids → ItemContents → Bool
has_id ids (Unlocks id t) = is_seen ids.achievements id
has_id ids (Ranks id format b) = is_seen ids.leaderboards id

-- the first repeat is this one, or no line repeats an id
abbrev pub TellsRepeat : Option Repeat → List Line → Type 0
TellsRepeat (Some repeat) lines = FirstRepeat lines repeat.id repeat.line
TellsRepeat None lines = IsDistinct repeats (items_of lines)

-- what is kept is what these lines have
pub record Keeps (kept : KeptLines) (lines : List Line) : Type 0 where
  pub items : map item_contents kept.items.items ≡ items_of lines
  pub ids : (x : ItemContents) → has_id kept.ids x ≡ list_any (repeats x) (items_of lines)
  pub count : kept.count ≡ length lines
  pub repeat : TellsRepeat kept.repeat lines

-- what is kept is what these lines have, but one line more is counted
pub record KeepsBefore (kept : KeptLines) (lines : List Line) : Type 0 where
  pub items : map item_contents kept.items.items ≡ items_of lines
  pub ids : (x : ItemContents) → has_id kept.ids x ≡ list_any (repeats x) (items_of lines)
  pub count : kept.count ≡ length lines + 1
  pub repeat : TellsRepeat kept.repeat lines

-- the first of two repeats, of which either may be missing
abbrev pub earlier_repeat : Option Repeat → Option Repeat → Option Repeat
earlier_repeat (Some repeat) later = Some repeat
earlier_repeat None later = later

-- the repeat of a line that is counted last, if its id is not new
abbrev pub repeat_now : KeptLines → ItemContents → Option Repeat
repeat_now kept x = if has_id kept.ids x then Some (record { id = id_of x; line = kept.count }) else None

-- the id of an item was noted, and its repeat where that is the first
pub record NotesId (old : KeptLines) (x : ItemContents) (new : KeptLines) : Type 0 where
  pub items : new.items ≡ old.items
  pub count : new.count ≡ old.count
  pub ids : (y : ItemContents) → has_id new.ids y ≡ (repeats x y || has_id old.ids y)
  pub repeat : new.repeat ≡ earlier_repeat old.repeat (repeat_now old x)

-- the lines that reading gives are kept, and whether a script comes after them, unless memory runs out
abbrev pub KeepsUnlessFull : Result FileLines Fault → List ℕ → Outcome ℕ (List Line × Bool) → Type 0
KeepsUnlessFull (Ok found) rest outcome =
    (lines : List Line) × (outcome ≡ Ok ((lines, found.has_script), rest)) × Keeps found.kept lines
KeepsUnlessFull (Err Stop) rest outcome = outcome ≡ Err rest
KeepsUnlessFull (Err Memory) rest outcome = Unit {0}
