-- What a table is seen as, and what its calls do: docs/DEFINITIONS.md, "Values at a frame" and "Marked and moved
-- cells".
use Rattle.std.specs.Prelude.{◌≡◌, ◌≢◌, ℕ, ◌+◌, ◌<◌, ◌≤◌, Bool, true, false, not, count_by, List, ◌∷◌, length, map}
use Rattle.std.specs.Prelude.{replicate, take, drop, slice_index, slice_index_or}
use Rattle.ra_memory.specs.Image.{History, raw}
use Rattle.ra_indirect.specs.declared.node.Node.{Node}
use Rattle.ra_indirect.specs.Trees.{Cell, constant}
use Rattle.ra_indirect.specs.Pools.{Spelled, IsTree, IsCell, spelled_by, cells_of, tracked_of}
use Rattle.ra_memref.specs.Values.{Start, value_of, cell_number, cell_place, tracked_number}
use Rattle.ra_memref.specs.Marks.{marks_after, marks_seen, reads_of}
pub use Rattle.ra_links.specs.FlatRows.{IsListed}

-- what a caller sees of a table: its nodes, the size of the memory, and what it keeps
pub record TableSeen : Type 0 where
  pub nodes : List Node
  pub size : ℕ
  -- the kept numbers
  pub cells : List ℕ
  pub priors : List ℕ
  -- a number per node, which counts once a sample came
  pub values : List ℕ
  pub sampled : Bool
  -- the marked cells, and where each lies
  pub marked : List Bool
  pub places : List ℕ
  -- the nodes that the last sample gave another number
  pub changed : List ℕ

-- the kept numbers of these nodes are those after the history
pub record AreKept (start : Start) (history : History) (nodes : List Node) (cells priors : List ℕ) : Type 0 where
  pub numbers : cells ≡ map (λ c. cell_number start c history) (cells_of nodes)
  pub priors_too : priors ≡ map (λ t. tracked_number start t history) (tracked_of nodes)

-- the cell past the end of a list of cells, at which no clause looks
abbrev pub no_cell : Cell
no_cell = record { pointer = constant 0; address = 0; width = 1 }

-- each cell that is not marked has the image's number at its place
abbrev pub Agrees : TableSeen → List ℕ → Type 0
Agrees table image =
    (k : ℕ) → k < length table.cells → slice_index_or table.marked k true ≡ false →
    slice_index table.cells k
    ≡ raw (slice_index_or (cells_of table.nodes) k no_cell).width image (slice_index table.places k)

-- what a node gives at the last frame: a tree its value, a cell its number
abbrev pub spelled_value : Start → History → Spelled → ℕ
spelled_value start history (IsTree tree) = value_of start tree history
spelled_value start history (IsCell c) = cell_number start c history

-- pool and size stay
abbrev pub SamePool : TableSeen → TableSeen → Type 0
SamePool old new = (new.nodes ≡ old.nodes) × (new.size ≡ old.size)

-- a table over a pool: all numbers are 0, each cell is marked and lies at its address, so it agrees with every image
pub record IsFresh (nodes : List Node) (size : ℕ) (table : TableSeen) : Type 0 where
  pub pool : table.nodes ≡ nodes
  pub size_too : table.size ≡ size
  pub cells : table.cells ≡ replicate (length (cells_of nodes)) 0
  pub priors : table.priors ≡ replicate (length (tracked_of nodes)) 0
  pub not_sampled : table.sampled ≡ false
  pub marked : table.marked ≡ replicate (length (cells_of nodes)) true
  pub places : table.places ≡ map (λ c. c.address) (cells_of nodes)
  pub agrees : (image : List ℕ) → length image ≡ size → Agrees table image

-- a sample takes up one frame, for every start and every history after which the kept numbers are old's
pub record Samples (old new : TableSeen) (image : List ℕ) : Type 0 where
  pub pool : SamePool old new
  pub kept : (start : Start) (history : History) → AreKept start history old.nodes old.cells
      old.priors → AreKept start (image ∷ history) old.nodes new.cells new.priors
  pub values : (start : Start) (history : History) → AreKept start history old.nodes old.cells
      old.priors → new.values ≡ map (spelled_value start (image ∷ history)) (spelled_by old.nodes)
  pub is_sampled : new.sampled ≡ true
  pub places : (start : Start) (history : History) → AreKept start history old.nodes old.cells
      old.priors → new.places ≡ map (λ c. cell_place start c (image ∷ history)) (cells_of old.nodes)
  pub agrees : Agrees new image

-- each cell that was marked or has moved was read, once, and no other; no cell is marked any more
pub record ReadsWanted (old new : TableSeen) (reads : ℕ) : Type 0 where
  pub unmarked : new.marked ≡ replicate (length (cells_of old.nodes)) false
  pub counted : reads ≡ reads_of old.marked old.places new.places

-- each cell that was not marked was read, and then each one that was marked, has another number in the image, or has
-- moved; no cell is marked any more
pub record ReadsLooked (old new : TableSeen) (image : List ℕ) (reads : ℕ) : Type 0 where
  pub unmarked : new.marked ≡ replicate (length (cells_of old.nodes)) false
  pub counted : reads ≡ count_by not old.marked + reads_of
      (marks_seen image (cells_of old.nodes) old.places old.cells old.marked) old.places new.places

-- each node that a sample gave another number is listed, and only nodes are
pub record ListsChanged (old new : TableSeen) : Type 0 where
  pub each : (n : ℕ) → n < length old.nodes → slice_index old.values n ≢ slice_index new.values n
      → IsListed n new.changed
  pub nodes : (k : ℕ) → k < length new.changed → slice_index new.changed k < length old.nodes
  pub few : length new.changed ≤ length old.nodes

-- the images have one size and differ in the told bytes alone
pub record DifferWithin (at count : ℕ) (image image' : List ℕ) : Type 0 where
  pub size : length image' ≡ length image
  pub below : take at image' ≡ take at image
  pub above : drop (at + count) image' ≡ drop (at + count) image

-- a write is told: it marks the cells that watch its pages, and changes nothing else
pub record IsTold (old new : TableSeen) (at count : ℕ) : Type 0 where
  pub rest : new ≡ record old { marked = new.marked }
  pub marked : new.marked ≡ marks_after old.size (cells_of old.nodes) old.places at count old.marked
  pub agrees : (image image' : List ℕ) → length image ≡ old.size
      → DifferWithin at count image image' → Agrees old image → Agrees new image'

-- an image is looked at: it marks the cells that have another number in it than the kept one, and changes nothing else
pub record IsLooked (old new : TableSeen) (image : List ℕ) : Type 0 where
  pub rest : new ≡ record old { marked = new.marked }
  pub marked : new.marked ≡ marks_seen image (cells_of old.nodes) old.places old.cells old.marked
  pub agrees : Agrees new image

-- kept numbers are put back: each cell is marked, and a sample is due before values count again; all else stays
pub record IsPutBack (old new : TableSeen) (cells priors : List ℕ) : Type 0 where
  pub pool : SamePool old new
  pub cells_too : new.cells ≡ cells
  pub priors_too : new.priors ≡ priors
  pub values : new.values ≡ old.values
  pub not_sampled : new.sampled ≡ false
  pub marked : new.marked ≡ replicate (length cells) true
  pub places : new.places ≡ old.places
  pub agrees : (image : List ℕ) → length image ≡ old.size → Agrees new image
