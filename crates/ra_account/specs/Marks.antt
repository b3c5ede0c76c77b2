-- The columns of a timeline: docs/DEFINITIONS.md, "Account of an achievement".
use Rattle.std.specs.Prelude.{◌≡◌, ℕ, zero, suc, nat_lt, count_by, map, ◌+◌, ◌*◌, ◌^◌, ◌<◌, ◌≤◌, Bool, not}
use Rattle.std.specs.Prelude.{if◌then◌else◌, ◌==◌, List, length, take, drop, reverse, slice_index_or}
use Rattle.std.specs.List.{list_all, range_with_len}
use Rattle.ra_account.specs.declared.columns.Columns.{Columns}
use Rattle.ra_account.specs.declared.mark.Mark.{Mark}
use Rattle.ra_account.specs.declared.mark.Mark.TheVariants.{Never, Sometimes, Always}

-- the mark of some frames: it counts at all of them, at none, or else at some
abbrev pub mark_of : List Bool → Mark
mark_of counts =
    if list_all (λ c. c) counts then Always else if list_all not counts then Never else Sometimes

-- the mark of one frame
abbrev pub mark_at : Bool → Mark
mark_at now = if now then Always else Never

-- all and all are all, none and none are none, else some
abbrev pub joined : Mark → Mark → Mark
joined Always Always = Always
joined Never Never = Never
joined _ _ = Sometimes

-- the frames of a column: of those of a history, the oldest first, `width` from the place that the columns before it
-- leave
abbrev pub frames_in : (width column : ℕ) → List Bool → List Bool
frames_in width column counts = take width (drop (column * width) counts)

-- the mark of a column; the frames of the history come newest first
abbrev pub column_of : (width column : ℕ) → List Bool → Mark
column_of width column counts = mark_of (frames_in width column (reverse counts))

-- the mark of a column of this many frames that has this mark, with one frame more
abbrev pub mark_more : ℕ → Mark → Bool → Mark
mark_more begun mark now = if begun == 0 then mark_at now else joined mark (mark_at now)

-- columns are within their bounds: the last one is not full, the width is not 0, and was not doubled before it had to
-- be
pub record IsSound (c : Columns) : Type 0 where
  pub sixty : length c.marks.items ≡ 60
  pub full : c.full ≤ 60
  pub begun : c.begun < c.width
  pub none_begun : c.full ≡ 60 → c.begun ≡ 0

-- they have the marks of these frames
pub record HasColumns (counts : List Bool) (c : Columns) : Type 0 where
  pub frames : c.full * c.width + c.begun ≡ length counts
  pub marks_too : (k : ℕ) → k * c.width < length counts → slice_index_or c.marks.items k Never
      ≡ column_of c.width k counts

-- the width is the least power of two with which 60 columns have room for this many frames
pub record IsWidth (frames width : ℕ) : Type 0 where
  pub exponent : ℕ
  pub power : width ≡ 2 ^ exponent
  pub enough : frames ≤ 60 * width
  pub least : (e : ℕ) → frames ≤ 60 * 2 ^ e → exponent ≤ e

-- the columns of these frames, of the least width
pub record IsTimeline (counts : List Bool) (c : Columns) : Type 0 where
  pub columns_too : HasColumns counts c
  pub width_too : IsWidth (length counts) c.width

-- the marks of the columns that have a frame
abbrev pub marks_in : Columns → List Mark
marks_in c = take (c.full + (if c.begun == 0 then 0 else 1)) c.marks.items

-- the least power of two with which 60 columns have room for this many frames
abbrev pub width_of : ℕ → ℕ
width_of zero = 1
width_of (suc n) = if nat_lt (60 * width_of n) (suc n) then width_of n + width_of n else width_of n

-- how many of 60 columns of this width have one of this many frames
abbrev pub columns_with : (width frames : ℕ) → ℕ
columns_with width frames = count_by (λ k. nat_lt (k * width) frames) (range_with_len 0 60)

-- the marks of the columns of these frames that have one, of the least width
abbrev pub timeline_of : List Bool → List Mark
timeline_of counts =
    let width = width_of (length counts) in
    map (λ k. column_of width k counts) (range_with_len 0 (columns_with width (length counts)))
