-- What stands when the nodes below a number have taken up a frame.
use Rattle.std.proofs.Common.{◌≡◌, ℕ, ◌<◌, List, ◌∷◌, length, map, get_or, set, refl, ap}
use Rattle.ra_operand.specs.declared.size.Size.{Size}
use Rattle.ra_operand.specs.declared.kind.Kind.{Kind}
use Rattle.ra_operand.specs.Views.{width_of, mask_of, view_of, transformed}
use Rattle.ra_memory.specs.Image.{History}
use Rattle.ra_indirect.specs.declared.node.Node.{Node}
use Rattle.ra_indirect.specs.Pools.{Spelled, IsTree, IsCell, tree_in, view_in, spelled_at, spelled_by, cells_of}
use Rattle.ra_indirect.specs.Pools.{tracked_of}
use Rattle.ra_indirect.proofs.SpelledLemmas.{GivesCell, GivesTree}
use Rattle.ra_memref.specs.Numbers.{NumbersSeen}
use Rattle.ra_memref.specs.Values.{Start, looked_at, masked_by, value_of, cell_number, cell_place, tracked_number}
use Rattle.ra_memref.specs.Table.{spelled_value}
use Rattle.ra_memref.specs.Layout.{cells_before, tracked_before, cell_there}
use Rattle.ra_memref.specs.Pass.{value_after, cells_after, earlier_after, places_after, marked_after, priors_after}
use Rattle.ra_memref.specs.Pass.{after_node}
use Rattle.ra_memref.proofs.Halfway.{IsDone, IsHalfway}
use Rattle.ra_memref.proofs.LaidLemmas.{cell_of_there}

-- the numbers of the cells and of the tracked masks after a history, and the cells' places
abbrev pub numbers_after : List Node → Start → History → List ℕ
numbers_after nodes start history = map (λ c. cell_number start c history) (cells_of nodes)

abbrev pub kept_priors : List Node → Start → History → List ℕ
kept_priors nodes start history = map (λ t. tracked_number start t history) (tracked_of nodes)

abbrev pub places_at : List Node → Start → History → List ℕ
places_at nodes start history = map (λ c. cell_place start c history) (cells_of nodes)

-- how many cells and tracked masks the nodes below k have
abbrev pub cell_count : List Node → ℕ → ℕ
cell_count nodes k = length (cells_before (spelled_by nodes) k)

abbrev pub tracked_count : List Node → ℕ → ℕ
tracked_count nodes k = length (tracked_before (spelled_by nodes) k)

-- the nodes below k have taken up the frame
pub record IsPassed (nodes : List Node) (start : Start) (history : History) (image : List ℕ) (k : ℕ)
    (numbers : NumbersSeen) : Type 0 where
  pub cells : IsHalfway (numbers_after nodes start history)
      (numbers_after nodes start (image ∷ history)) (cell_count nodes k) numbers.cells
  pub earlier : IsDone (numbers_after nodes start history) (cell_count nodes k) numbers.earlier
  pub places : IsDone (places_at nodes start (image ∷ history)) (cell_count nodes k) numbers.watches.places
  pub priors : IsHalfway (kept_priors nodes start history)
      (kept_priors nodes start (image ∷ history)) (tracked_count nodes k) numbers.priors
  pub values : (n : ℕ) → n < k → get_or numbers.values n 0
      ≡ spelled_value start (image ∷ history) (spelled_at (spelled_by nodes) n)

-- the node of number k has taken up the frame
pub record TakesNode (node : Node) (slots image : List ℕ) (k : ℕ) (old new : NumbersSeen) : Type 0 where
  pub values : new.values ≡ set old.values k (value_after node old image slots k)
  pub cells : new.cells ≡ cells_after node old image (get_or slots k 0)
  pub earlier : new.earlier ≡ earlier_after node old (get_or slots k 0)
  pub places : new.watches.places ≡ places_after node old (get_or slots k 0)
  pub priors : new.priors ≡ priors_after node old slots k
  pub marked : new.watches.marked ≡ marked_after node old (get_or slots k 0)
  pub widths : new.watches.widths ≡ old.watches.widths

-- what the equation of a node says of each row
pub takes_node : (node : Node) (slots image : List ℕ) (k : ℕ) (old new : NumbersSeen) → new
    ≡ after_node node old image slots k → TakesNode node slots image k old new
takes_node node slots image k old new is = record {
  values = ap (λ (n : NumbersSeen). n.values) is;
  cells = ap (λ (n : NumbersSeen). n.cells) is;
  earlier = ap (λ (n : NumbersSeen). n.earlier) is;
  places = ap (λ (n : NumbersSeen). n.watches.places) is;
  priors = ap (λ (n : NumbersSeen). n.priors) is;
  marked = ap (λ (n : NumbersSeen). n.watches.marked) is;
  widths = ap (λ (n : NumbersSeen). n.watches.widths) is;
}

-- what a tree and what a cell gives
pub value_of_tree : (start : Start) (history : History) (a : Spelled) → GivesTree a
    → spelled_value start history a ≡ value_of start (tree_in a) history
value_of_tree start history (IsTree x) gives = refl
value_of_tree start history (IsCell c) gives = absurd gives

pub number_of_cell : (start : Start) (history : History) (width : ℕ) (a : Spelled)
    → GivesCell width a → spelled_value start history a ≡ cell_number start (cell_there a) history
number_of_cell start history width (IsTree x) gives = absurd gives
number_of_cell start history width (IsCell c) gives = refl

-- the value of a view, by its cell
pub view_value : (start : Start) (image : List ℕ) (history : History) (kind : Kind) (size : Size)
    (a : Spelled) → GivesCell (width_of size) a → spelled_value start (image ∷ history)
    (IsTree (view_in kind size a)) ≡ transformed kind size (view_of size (looked_at kind
    (cell_number start (cell_there a)) (masked_by (mask_of size) (cell_number start (cell_there a)))
    (start.prior (record { cell = cell_there a; mask = mask_of size })) (image ∷ history)))
view_value start image history kind size (IsTree x) gives = absurd gives
view_value start image history kind size (IsCell c) gives =
    ap (λ d. transformed kind size (view_of size
    (looked_at kind (cell_number start d) (masked_by (mask_of size) (cell_number start d))
    (start.prior (record { cell = d; mask = mask_of size })) (image ∷ history))))
    (cell_of_there size (IsCell c) gives)
