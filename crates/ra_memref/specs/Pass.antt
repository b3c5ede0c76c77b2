-- What one node of a pass does to the numbers of a table: docs/DEFINITIONS.md, "Values at a frame".
use Rattle.std.specs.Prelude.{◌≡◌, ℕ, ◌<◌, ◌==◌, Bool, true, false, IsTrue, if◌then◌else◌, List, ◌∷◌, length, map}
use Rattle.std.specs.Prelude.{replicate, bit_and, slice_index, slice_index_or, slice_set}
use Rattle.ra_operand.specs.declared.kind.Kind.{Kind}
use Rattle.ra_operand.specs.declared.kind.Kind.TheVariants.{Delta, Prior}
use Rattle.ra_operand.specs.Views.{mask_of, view_of, transformed}
use Rattle.ra_operand.specs.Operators.{computed, is_arithmetic}
use Rattle.ra_memory.specs.Image.{History, raw, IsReadWidth}
use Rattle.ra_indirect.specs.declared.node.Node.{Node}
use Rattle.ra_indirect.specs.declared.node.Node.TheVariants.{Const, Cell as CellNode, View, Arith}
use Rattle.ra_indirect.specs.Pools.{spelled_by, cells_of, tracked_of}
use Rattle.ra_memref.specs.Numbers.{NumbersSeen}
use Rattle.ra_memref.specs.Values.{Start, moved_by, cell_place}
use Rattle.ra_memref.specs.Table.{AreKept, spelled_value}
use Rattle.ra_memref.specs.Marks.{read_of}

-- the prior after a frame: where the masked number differs from that of the frame before, the latter
abbrev pub prior_after : (mask before now prior : ℕ) → ℕ
prior_after mask before now prior =
    if bit_and now mask == bit_and before mask then prior else bit_and before mask

-- the number of a node that the pass has taken
abbrev pub value_at : NumbersSeen → ℕ → ℕ
value_at numbers n = slice_index numbers.values n

-- the number that the cell of a slot had at the frame before
abbrev pub earlier_at : NumbersSeen → ℕ → ℕ
earlier_at numbers slot = slice_index numbers.earlier slot

-- where a cell lies, by the number of its pointer's node
abbrev pub place_in : NumbersSeen → (pointer offset : ℕ) → ℕ
place_in numbers pointer offset = moved_by offset (value_at numbers pointer)

-- the number of a cell in this image, by the numbers found so far
abbrev pub number_in : NumbersSeen → List ℕ → (pointer offset width : ℕ) → ℕ
number_in numbers image pointer offset width = raw width image (place_in numbers pointer offset)

-- a prior after the frame, from its slot and from the cell's node and slot
abbrev pub prior_in : NumbersSeen → (mask prior_slot cell_slot c : ℕ) → ℕ
prior_in numbers mask prior_slot cell_slot c =
    prior_after mask (earlier_at numbers cell_slot) (value_at numbers c) (slice_index numbers.priors prior_slot)

-- the number that a view looks at
abbrev pub looked_in : Kind → NumbersSeen → (mask prior_slot cell_slot c : ℕ) → ℕ
looked_in Delta numbers mask prior_slot cell_slot c = earlier_at numbers cell_slot
looked_in Prior numbers mask prior_slot cell_slot c = prior_in numbers mask prior_slot cell_slot c
looked_in _ numbers mask prior_slot cell_slot c = value_at numbers c

-- the number of a node, by those of the nodes that it names
abbrev pub value_after : Node → NumbersSeen → List ℕ → List ℕ → ℕ → ℕ
value_after (Const n) numbers image slots number = n
value_after (CellNode width pointer offset) numbers image slots number = number_in numbers image pointer offset width
value_after (View kind size c) numbers image slots number =
    transformed kind size
    (view_of size (looked_in kind numbers (mask_of size) (slice_index slots number) (slice_index slots c) c))
value_after (Arith op left right) numbers image slots number =
    computed op (value_at numbers left) (value_at numbers right)

-- the kept numbers of the cells, once a node is taken
abbrev pub cells_after : Node → NumbersSeen → List ℕ → ℕ → List ℕ
cells_after (CellNode width pointer offset) numbers image slot =
    slice_set numbers.cells slot (number_in numbers image pointer offset width)
cells_after _ numbers image slot = numbers.cells

-- the numbers of the frame before, once a node is taken
abbrev pub earlier_after : Node → NumbersSeen → ℕ → List ℕ
earlier_after (CellNode width pointer offset) numbers slot =
    slice_set numbers.earlier slot (slice_index numbers.cells slot)
earlier_after _ numbers slot = numbers.earlier

-- the places of the cells, once a node is taken
abbrev pub places_after : Node → NumbersSeen → ℕ → List ℕ
places_after (CellNode width pointer offset) numbers slot =
    slice_set numbers.watches.places slot (place_in numbers pointer offset)
places_after _ numbers slot = numbers.watches.places

-- the marks, once a node is taken
abbrev pub marked_after : Node → NumbersSeen → ℕ → List Bool
marked_after (CellNode width pointer offset) numbers slot = slice_set numbers.watches.marked slot false
marked_after _ numbers slot = numbers.watches.marked

-- the kept priors, once a node is taken
abbrev pub priors_after : Node → NumbersSeen → List ℕ → ℕ → List ℕ
priors_after (View Prior size c) numbers slots number =
    slice_set numbers.priors (slice_index slots number)
    (prior_in numbers (mask_of size) (slice_index slots number) (slice_index slots c) c)
priors_after _ numbers slots number = numbers.priors

-- the numbers, once a node is taken
abbrev pub after_node : Node → NumbersSeen → (image slots : List ℕ) → ℕ → NumbersSeen
after_node node numbers image slots number = record {
  cells = cells_after node numbers image (slice_index slots number);
  earlier = earlier_after node numbers (slice_index slots number);
  watches = record numbers.watches {
    places = places_after node numbers (slice_index slots number);
    marked = marked_after node numbers (slice_index slots number);
  };
  priors = priors_after node numbers slots number;
  values = slice_set numbers.values number (value_after node numbers image slots number);
}

-- how often a node reads the image: a cell where it is marked or moved, and no other node
abbrev pub reads_at : Node → NumbersSeen → ℕ → ℕ
reads_at (CellNode width pointer offset) numbers slot =
    read_of (slice_index_or numbers.watches.marked slot true)
    (slice_index numbers.watches.places slot) (place_in numbers pointer offset)
reads_at _ numbers slot = 0

-- where the cell of a slot is not marked, its kept number is the image's at its place
abbrev pub IsAgreedIn : NumbersSeen → List ℕ → (slot width : ℕ) → Type 0
IsAgreedIn numbers image slot width =
    slice_index_or numbers.watches.marked slot true ≡ false → slice_index numbers.cells slot
    ≡ raw width image (slice_index numbers.watches.places slot)

-- the same of a node's cell, where it is one
abbrev pub IsAgreedAt : Node → NumbersSeen → List ℕ → ℕ → Type 0
IsAgreedAt (CellNode width pointer offset) numbers image slot = IsAgreedIn numbers image slot width
IsAgreedAt _ numbers image slot = Unit {0}

-- the same of each cell
abbrev pub IsAgreed : NumbersSeen → List ℕ → Type 0
IsAgreed numbers image =
    (k : ℕ) → k < length numbers.cells → IsAgreedIn numbers image k (slice_index numbers.watches.widths k)

-- what a node names is there
abbrev pub IsWithin : Node → NumbersSeen → List ℕ → ℕ → Type 0
IsWithin (Const n) numbers slots number = Unit {0}
IsWithin (CellNode width pointer offset) numbers slots number =
    (pointer < length numbers.values) × (slice_index slots number < length numbers.cells) × IsReadWidth width
IsWithin (View Prior size c) numbers slots number =
    (c < length numbers.values) × (slice_index slots c < length numbers.cells)
    × (slice_index slots number < length numbers.priors)
IsWithin (View _ size c) numbers slots number =
    (c < length numbers.values) × (slice_index slots c < length numbers.cells)
IsWithin (Arith op left right) numbers slots number =
    (left < length numbers.values) × (right < length numbers.values) × IsTrue (is_arithmetic op)

-- the lists are as long as the pool's cells, tracked masks and nodes
pub record IsSizedFor (nodes : List Node) (numbers : NumbersSeen) : Type 0 where
  pub cells : length numbers.cells ≡ length (cells_of nodes)
  pub earlier : length numbers.earlier ≡ length (cells_of nodes)
  pub places : length numbers.watches.places ≡ length (cells_of nodes)
  pub marked : length numbers.watches.marked ≡ length (cells_of nodes)
  pub widths : numbers.watches.widths ≡ map (λ c. c.width) (cells_of nodes)
  pub priors : length numbers.priors ≡ length (tracked_of nodes)
  pub values : length numbers.values ≡ length nodes

-- a pass takes up one frame, for every start and every history after which the kept numbers are the old ones, and
-- leaves no cell marked
pub record TakesFrame (nodes : List Node) (old new : NumbersSeen) (image : List ℕ) : Type 0 where
  pub kept : (start : Start) (history : History) → AreKept start history nodes old.cells old.priors
      → AreKept start (image ∷ history) nodes new.cells new.priors
  pub values : (start : Start) (history : History) → AreKept start history nodes old.cells
      old.priors → new.values ≡ map (spelled_value start (image ∷ history)) (spelled_by nodes)
  pub places : (start : Start) (history : History) → AreKept start history nodes old.cells
      old.priors → new.watches.places
      ≡ map (λ c. cell_place start c (image ∷ history)) (cells_of nodes)
  pub sized : IsSizedFor nodes new
  pub size : new.watches.size ≡ old.watches.size
  pub unmarked : new.watches.marked ≡ replicate (length (cells_of nodes)) false
  pub agreed : IsAgreed new image
