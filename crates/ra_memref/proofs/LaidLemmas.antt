-- The cells and the tracked masks of a pool, node by node.
use Rattle.std.proofs.Common.{◌≡◌, Bool, true, false, ℕ, zero, suc, ◌+◌, ◌<◌, ◌≤◌, List, [], ◌∷◌, ◌++◌, length, take}
use Rattle.std.proofs.Common.{drop, get_or, refl, ap, sym, ◌∙◌, arith, length-append}
use Rattle.std.specs.List.{flat_map}
use Rattle.std.proofs.lemmas.List.{append-nil}
use Rattle.std.proofs.lemmas.List.Concat.{flat_map-append, get_or-flat_map}
use Rattle.std.proofs.Math.Seq.{take-suc, take-length}
use Rattle.std.proofs.lemmas.Bool.{false≢true}
use Rattle.ra_operand.specs.declared.size.Size.{Size}
use Rattle.ra_operand.specs.declared.kind.Kind.{Kind}
use Rattle.ra_operand.specs.declared.kind.Kind.TheVariants.{Mem, Delta, Prior, Bcd, Inverted}
use Rattle.ra_operand.specs.Views.{width_of, mask_of}
use Rattle.ra_indirect.specs.declared.node.Node.{Node}
use Rattle.ra_indirect.specs.Trees.{constant, Cell, cell_of, Tracked, same_tracked, firsts}
use Rattle.ra_indirect.specs.Pools.{Spelled, IsTree, IsCell, spelled_at, spelled_by, cell_in, tracked_at, view_in}
use Rattle.ra_indirect.specs.Pools.{cells_of, tracked_of}
use Rattle.ra_indirect.proofs.Spelling.{length-spelled_by}
use Rattle.ra_indirect.proofs.FirstsLemmas.{firsts-append}
use Rattle.ra_indirect.proofs.SpelledLemmas.{GivesCell}
use Rattle.ra_memref.specs.Table.{no_cell}
use Rattle.ra_memref.specs.Layout.{cells_before, tracked_before, cell_there}

-- a list's front of m stands at the front of its front of n
pub take_front : {X : Type 0} (xs : List X) (m n : ℕ) → m ≤ n → take n xs ≡ take m xs ++ drop m (take n xs)
take_front xs zero n less = refl
take_front [] (suc m) zero less = refl
take_front [] (suc m) (suc n) less = refl
take_front (x ∷ xs) (suc m) zero less = absurd (omega arith)
take_front (x ∷ xs) (suc m) (suc n) less = ap (λ ys. x ∷ ys) (take_front xs m n (omega arith))

module _ (spelled : List Spelled) where
  abbrev raw_before : ℕ → List Tracked
  raw_before n = flat_map tracked_at (take n spelled)

  more_of : {X : Type 0} (f : Spelled → List X) (n : ℕ) (x : Spelled) → n < length spelled
      → spelled_at spelled n ≡ x → flat_map f (take (suc n) spelled)
      ≡ flat_map f (take n spelled) ++ f x
  more_of f n x within is =
      ap (flat_map f) (take-suc spelled n (IsTree (constant 0)) within)
      ∙ flat_map-append f (take n spelled) (spelled_at spelled n ∷ [])
      ∙ ap (λ ys. flat_map f (take n spelled) ++ ys) (append-nil (f (spelled_at spelled n)) ∙ ap f is)

  -- a cell comes last, and what is no cell adds none
  pub cells_one : (n : ℕ) (c : Cell) → n < length spelled → spelled_at spelled n ≡ IsCell c
      → cells_before spelled (suc n) ≡ cells_before spelled n ++ c ∷ []
  cells_one n c within is = more_of cell_in n (IsCell c) within is

  pub cells_same : (n : ℕ) (x : Spelled) → n < length spelled → spelled_at spelled n ≡ x → cell_in x
      ≡ [] → cells_before spelled (suc n) ≡ cells_before spelled n
  cells_same n x within is none =
      more_of cell_in n x within is ∙ ap (λ ys. cells_before spelled n ++ ys) none ∙ append-nil (cells_before spelled n)

  -- what tracks no mask adds none
  pub tracked_same : (n : ℕ) (x : Spelled) → n < length spelled → spelled_at spelled n ≡ x
      → tracked_at x ≡ [] → tracked_before spelled (suc n) ≡ tracked_before spelled n
  tracked_same n x within is none =
      ap (firsts same_tracked)
      (more_of tracked_at n x within is ∙ ap (λ ys. raw_before n ++ ys) none ∙ append-nil (raw_before n))

  pub tracked_more : (n : ℕ) (x : Spelled) (t : Tracked) → n < length spelled → spelled_at spelled n
      ≡ x → tracked_at x ≡ t ∷ [] → tracked_before spelled (suc n)
      ≡ firsts same_tracked (raw_before n ++ t ∷ [])
  tracked_more n x t within is one =
      ap (firsts same_tracked) (more_of tracked_at n x within is ∙ ap (λ ys. raw_before n ++ ys) one)

  -- the cells of fewer nodes stand at the front of those of more
  pub cells_grow : (m n : ℕ) → m ≤ n → length (cells_before spelled m) ≤ length (cells_before spelled n)
  cells_grow m n less =
      omega (
        arith,
        ap length (ap (flat_map cell_in) (take_front spelled m n less)
            ∙ flat_map-append cell_in (take m spelled) (drop m (take n spelled))),
        length-append (cells_before spelled m) (flat_map cell_in (drop m (take n spelled))),
      )

  -- the tracked masks of fewer nodes stand at the front of those of more
  pub tracked_grow : (m n : ℕ) → m ≤ n → length (tracked_before spelled m) ≤ length (tracked_before spelled n)
  tracked_grow m n less =
      let whole : raw_before n ≡ raw_before m ++ flat_map tracked_at (drop m (take n spelled)) =
      ap (flat_map tracked_at) (take_front spelled m n less)
      ∙ flat_map-append tracked_at (take m spelled) (drop m (take n spelled)) in
      omega (
        arith,
        (firsts-append same_tracked (raw_before m) (flat_map tracked_at (drop m (take n spelled)))).0,
        ap (λ xs. length (firsts same_tracked xs)) whole,
      )

  pub tracked_front : (m n : ℕ) → m ≤ n → (i : ℕ) (d : Tracked) → i < length (tracked_before spelled
      m) → get_or (tracked_before spelled n) i d ≡ get_or (tracked_before spelled m) i d
  tracked_front m n less i d below =
      let whole : raw_before n ≡ raw_before m ++ flat_map tracked_at (drop m (take n spelled)) =
      ap (flat_map tracked_at) (take_front spelled m n less)
      ∙ flat_map-append tracked_at (take m spelled) (drop m (take n spelled)) in
      ap (λ xs. get_or (firsts same_tracked xs) i d) whole
      ∙ (firsts-append same_tracked (raw_before m) (flat_map tracked_at (drop m (take n spelled)))).1 i d below

  -- where the cell of a node stands among the cells
  pub cell_stands : (n : ℕ) (c : Cell) → n < length spelled → spelled_at spelled n ≡ IsCell c
      → get_or (flat_map cell_in spelled) (length (cells_before spelled n)) no_cell ≡ c
  cell_stands n c within is =
      let one : length (cell_in (spelled_at spelled n)) ≡ 1 = ap (λ x. length (cell_in x)) is in
      let here : length (cells_before spelled n) + 0 ≡ length (cells_before spelled n) = omega arith in
      ap (λ i. get_or (flat_map cell_in spelled) i no_cell) (sym here)
      ∙ get_or-flat_map cell_in spelled n 0 (IsTree (constant 0)) no_cell within (omega arith)
      ∙ ap (λ x. get_or (cell_in x) 0 no_cell) is

-- all nodes are before the end
pub cells_all : (nodes : List Node) → cells_before (spelled_by nodes) (length nodes) ≡ cells_of nodes
cells_all nodes =
    ap (flat_map cell_in)
    (ap (λ n. take n (spelled_by nodes)) (sym (length-spelled_by nodes)) ∙ take-length (spelled_by nodes))

pub tracked_all : (nodes : List Node) → tracked_before (spelled_by nodes) (length nodes) ≡ tracked_of nodes
tracked_all nodes =
    ap (λ spelled. firsts same_tracked (flat_map tracked_at spelled))
    (ap (λ n. take n (spelled_by nodes)) (sym (length-spelled_by nodes)) ∙ take-length (spelled_by nodes))

-- a cell of a size's width is the cell of its view
pub cell_of_there : (size : Size) (a : Spelled) → GivesCell (width_of size) a
    → cell_of size (cell_there a).pointer (cell_there a).address ≡ cell_there a
cell_of_there size (IsTree x) is = absurd is
cell_of_there size (IsCell c) is = λ i. record { pointer = c.pointer; address = c.address; width = sym is i }

-- a prior view tracks the mask of its size, and no other view tracks one
pub prior_tracks : (size : Size) (a : Spelled) → GivesCell (width_of size) a → tracked_at
    (IsTree (view_in Prior size a)) ≡ record { cell = cell_there a; mask = mask_of size } ∷ []
prior_tracks size (IsTree x) is = absurd is
prior_tracks size (IsCell c) is =
    ap (λ d. record { cell = d; mask = mask_of size } ∷ []) (cell_of_there size (IsCell c) is)

pub is_cell_there : (width : ℕ) (a : Spelled) → GivesCell width a → a ≡ IsCell (cell_there a)
is_cell_there width (IsTree x) is = absurd is
is_cell_there width (IsCell c) is = refl

abbrev pub is_prior : Kind → Bool
is_prior Prior = true
is_prior Mem = false
is_prior Delta = false
is_prior Bcd = false
is_prior Inverted = false

pub none_tracked : (kind : Kind) (size : Size) (a : Spelled) → is_prior kind ≡ false
    → tracked_at (IsTree (view_in kind size a)) ≡ []
none_tracked kind size (IsTree x) other = refl
none_tracked Mem size (IsCell c) other = refl
none_tracked Delta size (IsCell c) other = refl
none_tracked Bcd size (IsCell c) other = refl
none_tracked Inverted size (IsCell c) other = refl
none_tracked Prior size (IsCell c) other = absurd (false≢true (sym other))
