-- Which cells a table has to read at the next frame: docs/INTERNALS.md, "Marked and moved cells".
use Rattle.std.specs.Prelude.{ℕ, ◌+◌, ◌-◌, ◌/◌, ◌==◌, Bool, not, ◌&&◌, ◌||◌, if◌then◌else◌, nat_lt, nat_le, List, []}
use Rattle.std.specs.Prelude.{◌∷◌}
use Rattle.std.specs.List.{list_any, range_with_len}
use Rattle.ra_indirect.specs.Trees.{Cell}
use Rattle.ra_memref.specs.Marking.{is_other}

-- the page of a byte
abbrev pub page_of : ℕ → ℕ
page_of at = at / 16

-- one of this many bytes from the place on stands on the page
abbrev pub touches : ℕ → ℕ → ℕ → Bool
touches at count page =
    nat_lt 0 count && (nat_le (page_of at) page && nat_le page (page_of (at + count - 1)))

-- a cell of this width at this place watches one of the pages that the bytes stand on
abbrev pub is_watched : ℕ → ℕ → ℕ → ℕ → ℕ → Bool
is_watched size place width at count =
    list_any (λ k. nat_lt k size && touches at count (page_of k)) (range_with_len place width)

-- the marks of the cells after a write was told
abbrev pub marks_after : ℕ → List Cell → List ℕ → ℕ → ℕ → List Bool → List Bool
marks_after size (c ∷ cells) (place ∷ places) at count (mark ∷ marks) =
    (mark || is_watched size place c.width at count) ∷ marks_after size cells places at count marks
marks_after size _ places at count marks = []

-- the marks of the cells after an image was looked at, by the places and the kept numbers
abbrev pub marks_seen : List ℕ → List Cell → List ℕ → List ℕ → List Bool → List Bool
marks_seen image (c ∷ cells) (place ∷ places) (number ∷ numbers) (mark ∷ marks) =
    (mark || is_other image c.width place number) ∷ marks_seen image cells places numbers marks
marks_seen image _ places numbers marks = []

-- how often a frame reads a cell: once where it is marked or lies at another place than before, and else not
abbrev pub read_of : Bool → ℕ → ℕ → ℕ
read_of mark place place' = if mark || not (place == place') then 1 else 0

-- how often it reads these cells together
abbrev pub reads_of : List Bool → List ℕ → List ℕ → ℕ
reads_of (mark ∷ marks) (place ∷ places) (place' ∷ places') =
    read_of mark place place' + reads_of marks places places'
reads_of _ places places' = 0
