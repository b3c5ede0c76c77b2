-- Which cells watch which pages, by lists of cells: docs/INTERNALS.md, "Marked and moved cells".
use Rattle.std.specs.Prelude.{◌≡◌, ℕ, zero, suc, ◌+◌, ◌-◌, ◌/◌, ◌<◌, ◌≤◌, ◌^◌, ◌==◌, Bool, not, ◌&&◌, ◌||◌}
use Rattle.std.specs.Prelude.{if◌then◌else◌, nat_lt, Option, None, Some, List, length, replicate, true, slice_index}
use Rattle.std.specs.Prelude.{slice_index_or, [], ◌∷◌}
use Rattle.std.specs.List.{range_with_len}
use Rattle.std.specs.List.Sorted.{IsPermutation}
use Rattle.ra_memory.specs.Image.{IsReadWidth}
use Rattle.ra_links.specs.Rows.{Rows, holder_of}
use Rattle.ra_memref.specs.Marks.{page_of, is_watched}
use Rattle.ra_memref.specs.Marking.{is_between, is_other}

-- the watches of cells: the size of the image, and for each cell its width, its place and its mark
pub record WatchesSeen : Type 0 where
  pub size : ℕ
  pub widths : List ℕ
  pub places : List ℕ
  pub marked : List Bool

-- which cells are marked: each from one on, and each before it by its own mark
abbrev pub marked_by : ℕ → List Bool → List Bool
marked_by zero marks = replicate (length marks) true
marked_by (suc from) [] = []
marked_by (suc from) (mark ∷ marks) = mark ∷ marked_by from marks

-- how many pages an image has
abbrev pub pages_of : ℕ → ℕ
pages_of size = (size + 15) / 16

-- the page of a cell's first byte, where the image has that byte
abbrev pub first_page : ℕ → ℕ → Option ℕ
first_page size place = if nat_lt place size then Some (page_of place) else None

-- the page of a cell's last byte, where it is another one and the image has it
abbrev pub second_page : ℕ → ℕ → ℕ → Option ℕ
second_page size place width =
    if not (page_of (place + width - 1) == page_of place) && nat_lt (page_of (place + width - 1))
    (pages_of size) then Some (page_of (place + width - 1)) else None

-- the last byte of a cell of this width at this place stands on another page than its first one, which is one from the
-- first page on and before the end
abbrev pub reaches : ℕ → (first end place width : ℕ) → Bool
reaches size first end place width = is_between first end (second_page size place width)

-- a cell of this width at this place watches one of the pages from the first one on and before the end
abbrev pub watches_between : ℕ → (first end place width : ℕ) → Bool
watches_between size first end place width =
    is_between first end (first_page size place) || reaches size first end place width

-- each cell stands on the list of the page of its first byte
pub record IsIndexed (size : ℕ) (widths places : List ℕ) (marks : List Bool) (pages : Rows) : Type 0 where
  pub small : size ≤ 2 ^ 27
  pub few : length places < 2 ^ 30
  pub widths_too : length widths ≡ length places
  pub marks_too : length marks ≡ length places
  pub wide : (k : ℕ) → k < length places → IsReadWidth (slice_index widths k)
  pub lists : length pages.lists ≡ pages_of size
  pub nodes : pages.nodes ≡ length places
  pub stands : (k : ℕ) → k < length places → holder_of pages.lists k ≡ first_page size (slice_index places k)

-- each of this many cells stands in a row once
abbrev pub IsOrder : ℕ → List ℕ → Type 0
IsOrder count order = IsPermutation (range_with_len 0 count) order

-- the order that a row stands for: its own, and that of the cells where it has none
abbrev pub order_by : ℕ → List ℕ → List ℕ
order_by count [] = range_with_len 0 count
order_by count (cell ∷ cells) = cell ∷ cells

-- 1 for a cell that is not marked, and 0 for a marked one
abbrev pub one_unmarked : List Bool → ℕ → ℕ
one_unmarked marks cell = if slice_index_or marks cell true then 0 else 1

-- each cell stands on the list of the page of its first byte, and once in the order of looks
pub record AreWatched (size : ℕ) (widths places : List ℕ) (marks : List Bool) (pages : Rows)
    (order : List ℕ) : Type 0 where
  pub indexed : IsIndexed size widths places marks pages
  pub ordered : IsOrder (length places) (order_by (length places) order)

-- a write is told: the cells that watch one of its pages are marked, and nothing else changes
pub record MarksWatchers (old new : WatchesSeen) (at count : ℕ) : Type 0 where
  pub rest : new ≡ record old { marked = new.marked }
  pub long : length new.marked ≡ length old.marked
  pub marked : (k : ℕ) → k < length old.places → slice_index_or new.marked k true
      ≡ (slice_index_or old.marked k true
      || is_watched old.size (slice_index old.places k) (slice_index old.widths k) at count)

-- the image is looked at: the cells that have another number in it are marked, and nothing else changes
pub record MarksOthers (old new : WatchesSeen) (image numbers : List ℕ) : Type 0 where
  pub rest : new ≡ record old { marked = new.marked }
  pub long : length new.marked ≡ length old.marked
  pub marked : (k : ℕ) → k < length old.places → slice_index_or new.marked k true
      ≡ (slice_index_or old.marked k true || is_other image (slice_index old.widths k)
      (slice_index old.places k) (slice_index numbers k))
