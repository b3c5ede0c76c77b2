-- Watches of which a large write is told and not marked yet: docs/INTERNALS.md, "Large writes are marked late".
use Rattle.std.specs.Prelude.{◌≡◌, ℕ, ◌+◌, ◌≤◌, ◌^◌, Bool, true, false, ◌||◌, Option, None, Some, IfSome}
use Rattle.std.specs.Prelude.{List, length, map}
use Rattle.std.specs.Prelude.{slice_index, slice_index_or}
use Rattle.std.specs.List.{range_with_len}
use Rattle.ra_memref.specs.declared.told_bytes.ToldBytes.{ToldBytes}
use Rattle.ra_memref.specs.Marks.{is_watched}
use Rattle.ra_memref.specs.Watches.{WatchesSeen}

-- a cell of this width at this place watches a page of what is told, where something is
abbrev pub watches_told : Option ToldBytes → (size place width : ℕ) → Bool
watches_told None size place width = false
watches_told (Some bytes) size place width = is_watched size place width bytes.at bytes.count

-- the marks of watches once what is told is marked too
abbrev pub marked_with : Option ToldBytes → WatchesSeen → List Bool
marked_with None w = w.marked
marked_with (Some bytes) w =
    map (λ k. slice_index_or w.marked k true || watches_told (Some bytes) w.size (slice_index w.places k)
    (slice_index w.widths k)) (range_with_len 0 (length w.marked))

-- what watches stand for of which this is told
abbrev pub with_told : Option ToldBytes → WatchesSeen → WatchesSeen
with_told told w = record w { marked = marked_with told w }

-- there is a mark for each cell, and what is told lies in the image
pub record AreLate (told : Option ToldBytes) (w : WatchesSeen) : Type 0 where
  pub many : length w.marked ≡ length w.places
  pub within : IfSome told (λ bytes. bytes.at + bytes.count ≤ w.size)
  pub small : IfSome told (λ bytes. w.size ≤ 2 ^ 27)

-- bytes that join what is told and a write: who watches a page of one of both watches one of these
pub record Joins (told : Option ToldBytes) (at count : ℕ) (bytes : ToldBytes) : Type 0 where
  pub both : (size place width : ℕ) → is_watched size place width bytes.at bytes.count
      ≡ (watches_told told size place width || is_watched size place width at count)
  pub within : (size : ℕ) → IfSome told (λ b. b.at + b.count ≤ size) → at + count ≤ size
      → bytes.at + bytes.count ≤ size
