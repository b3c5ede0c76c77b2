-- What accepted bytes say.
use Rattle.std.specs.Prelude.{ℕ, ◌+◌, ◌-◌, ◌*◌, ◌==◌, Bool, if◌then◌else◌, nat_le, Option, None, Some, option_map, List}
use Rattle.std.specs.Prelude.{[], ◌∷◌, length, map, bytes_eq, slice_index, slice_index_or}
use Rattle.ra_progress.specs.declared.shape.ItemShape.{ItemShape}
use Rattle.ra_progress.specs.declared.shape.ItemShape.TheVariants as shapes
use Rattle.ra_progress.specs.declared.shape.PresenceShape.{PresenceShape}
use Rattle.ra_progress.specs.Contents.{Name, ShapeContents, own_entries, KeptItem, OfAchievement, OfBoard, KeptPresence}
use Rattle.ra_progress.specs.Contents.{Opening, plain_item, plain_presence}
use Rattle.ra_text.specs.Words.{word_at, words_at}
use Rattle.ra_progress.specs.Layout.{Numbered, Entry, version_in, frames_at, cells_in, priors_in, entries_in}
use Rattle.ra_progress.specs.Layout.{blocks_at_1}
use Rattle.ra_progress.specs.Reading.{of_this_set, blocks_from}

-- whether an achievement's state byte says that it is earned: in version 3 by itself, and in an older one where it is
-- triggered
abbrev pub is_earned : (version byte : ℕ) → Bool
is_earned version byte = if version == 3 then nat_le 8 byte else byte == 4

-- the state that the byte says
abbrev pub state_said : (version byte : ℕ) → ℕ
state_said version byte = if is_earned version byte then (if version == 3 then byte - 8 else byte) else byte

-- the item that the block at a place says
abbrev pub said_item : List ℕ → ItemShape → (at : ℕ) → KeptItem
said_item bytes (shapes.Achievement hits) at =
    OfAchievement (state_said (version_in bytes) (slice_index bytes at)) (word_at bytes (at + 1))
    (words_at bytes (at + 5) hits) (is_earned (version_in bytes) (slice_index bytes at))
said_item bytes (shapes.Leaderboard hits parts) at =
    OfBoard (slice_index bytes at) (words_at bytes (at + 1) hits) (words_at bytes (at + 1 + 4 * hits) parts)

-- the presence that the block at a place says
abbrev pub said_presence : List ℕ → PresenceShape → (at : ℕ) → KeptPresence
said_presence bytes p at = record {
  shown = word_at bytes at;
  hits = words_at bytes (at + 4) p.hits;
  numbers = words_at bytes (at + 4 + 4 * p.hits) p.parts;
}

-- the number of the last one of a name, of those that come after others; 0 where none has it
abbrev pub last_number : Name → List Numbered → (earlier : ℕ) → ℕ
last_number name [] earlier = earlier
last_number name (n ∷ more) earlier = last_number name more (if bytes_eq n.name name then n.number else earlier)

-- where the block of the last entry of a name stands, of those that come after others
abbrev pub last_block : Name → List Entry → (earlier : Option ℕ) → Option ℕ
last_block name [] earlier = earlier
last_block name (entry ∷ more) earlier =
    last_block name more (if bytes_eq entry.name name then Some (entry.at + 20) else earlier)

-- where the block of each own entry stands, where there is one
abbrev pub own_places : ShapeContents → List ℕ → List (Option ℕ)
own_places shape bytes =
    if version_in bytes == 1 then map (λ block. Some block.at) (blocks_from (blocks_at_1 shape) (own_entries shape))
    else if of_this_set shape bytes then map (λ entry. Some (entry.at + 20)) (entries_in bytes)
    else map (λ own. last_block own.name (entries_in bytes) None) (own_entries shape)

-- what is said at a place, and what the plain opening keeps where there is none
abbrev pub said_or : {A : Type 0} → (ℕ → A) → A → Option ℕ → A
said_or said plain None = plain
said_or said plain (Some at) = said at

-- the items, from the places of their blocks
abbrev pub said_items : List ℕ → List ItemShape → List (Option ℕ) → List KeptItem
said_items bytes (shape ∷ shapes) (place ∷ places) =
    said_or (said_item bytes shape) (plain_item shape) place ∷ said_items bytes shapes places
said_items bytes _ _ = []

-- the place of the script's block, which comes after those of the items
abbrev pub script_place : ShapeContents → List ℕ → Option ℕ
script_place shape bytes = slice_index_or (own_places shape bytes) (length shape.items) None

-- this many words, or the last number of each name
abbrev pub said_numbers : ShapeContents → List ℕ → (at : ℕ) → List Name → List Numbered → List ℕ
said_numbers shape bytes at names numbered =
    if version_in bytes == 1 then words_at bytes at (length names)
    else if of_this_set shape bytes then map (λ n. n.number) numbered
    else map (λ name. last_number name numbered 0) names

-- the opening that accepted bytes say
abbrev pub says : ShapeContents → List ℕ → Opening
says shape bytes = record {
  frames = frames_at bytes;
  cells = said_numbers shape bytes 29 shape.cells (cells_in bytes);
  priors = said_numbers shape bytes (29 + 4 * length shape.cells) shape.priors (priors_in bytes);
  items = said_items bytes shape.items (own_places shape bytes);
  presence = option_map (λ p. said_or (said_presence bytes p) (plain_presence p)
      (script_place shape bytes)) shape.presence;
}
