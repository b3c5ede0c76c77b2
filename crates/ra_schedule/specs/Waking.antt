-- When readers are woken at a frame, and what they see of its values: docs/INTERNALS.md, "Members at rest".
use Rattle.std.specs.Prelude.{◌≡◌, ℕ, ◌+◌, ◌/◌, ◌<◌, ◌≤◌, true, false, List, [], ◌∷◌, length, map, slice_index}
use Rattle.std.specs.Prelude.{slice_index_or}
use Rattle.ra_indirect.specs.declared.node.Node.{Node}
use Rattle.ra_indirect.specs.Pools.{spelled_by}
use Rattle.ra_memref.specs.Table.{TableSeen, spelled_value}
use Rattle.ra_memref.specs.Values.{Start}
use Rattle.ra_schedule.specs.Readers.{IsListed, ReadersSeen, Reads, ReadsOne}
use Rattle.ra_member.specs.Members.{MemberContents}
use Rattle.ra_schedule.specs.Inputs.{Instant, MemberSeesSame}
use Rattle.ra_truths.specs.declared.comparison.Comparison.{Comparison}
use Rattle.ra_truths.specs.Comparisons.{comparison_at, holds_by}
pub use Rattle.ra_truths.specs.Truths.{AreChanged}

-- the first frame after a start
abbrev pub first_frame : Start → (image : List ℕ) → Instant
first_frame start image = record { start = start; history = image ∷ [] }

-- these are the values of the nodes at an instant
abbrev pub AreValuesAt : List Node → List ℕ → Instant → Type 0
AreValuesAt nodes values now = values ≡ map (spelled_value now.start now.history) (spelled_by nodes)

-- the values of a table are those of some frame
pub record IsSomeFrame (table : TableSeen) : Type 0 where
  pub start : Start
  pub image : List ℕ
  pub has : AreValuesAt table.nodes table.values (first_frame start image)

-- a reader reads the same at two rows of values: the numbers of the nodes that it reads, and the truths of the
-- comparisons
pub record Agrees (nodes : ℕ) (comparisons : List Comparison) (readers : ReadersSeen) (reader : ℕ)
    (values later : List ℕ) : Type 0 where
  pub numbers : (n : ℕ) → n < nodes → Reads readers n reader → slice_index later n ≡ slice_index values n
  pub truths : (k : ℕ) → k < length comparisons → Reads readers (nodes + k) reader
      → holds_by later (comparison_at comparisons k) ≡ holds_by values (comparison_at comparisons k)

-- what is still not due was not, the count of frames is not at its end, and none of these signals is read
pub record IsWoken (clock : ℕ) (nodes : List ℕ) (old new : ReadersSeen) : Type 0 where
  pub rows : new.rows ≡ old.rows
  pub long : length new.due ≡ length old.due
  pub kept : (r : ℕ) → slice_index_or new.due r true ≡ false
      → (slice_index_or old.due r true ≡ false) × (clock < 18446744073709551615)
  pub woken : (r n : ℕ) → slice_index_or new.due r true ≡ false → IsListed n nodes → Reads old n r → ⊥

-- who became due reads one of these signals, unless more than a quarter of all signals are among them, or the count of
-- frames is at its end
abbrev pub IsWokenAlone : (clock : ℕ) → List ℕ → (old new : ReadersSeen) → Type 0
IsWokenAlone clock nodes old new =
    length nodes ≤ length old.rows / 4 → clock < 18446744073709551615
    → (r : ℕ) → slice_index_or old.due r true ≡ false → slice_index_or new.due r true ≡ true → ReadsOne old nodes r

-- a reader is told of all that something sees: where it reads the same, that sees the same
abbrev pub IsTold : (Sees : Instant → Instant → Type 0) → List Node → List Comparison → ReadersSeen
    → (reader : ℕ) → Type 0
IsTold Sees nodes comparisons readers reader =
    (values values' : List ℕ) (now later : Instant) → AreValuesAt nodes values now → AreValuesAt nodes values' later
    → Agrees (length nodes) comparisons readers reader values values' → Sees now later

-- a reader is told of all that a member sees
abbrev pub IsMemberTold : List Node → List Comparison → ReadersSeen → MemberContents → (reader : ℕ) → Type 0
IsMemberTold nodes comparisons readers m reader =
    IsTold (λ now later. MemberSeesSame now later m) nodes comparisons readers reader
