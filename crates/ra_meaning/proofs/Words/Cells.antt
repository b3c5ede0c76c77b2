-- Cells and tracked masks of a set keep numbers of 32 bits after a history.
use Rattle.std.proofs.Common.{◌≡◌, ℕ, ◌≤◌, List, [], ◌∷◌, inl, inr, length, map, drop, slice_index, sym, ◌∙◌, subst}
use Rattle.std.proofs.Common.{lit<, refl}
use Rattle.std.specs.List.{flat_map}
use Rattle.std.proofs.lemmas.List.{length-map}
use Rattle.ra_operand.specs.declared.size.Size.{Size}
use Rattle.ra_operand.specs.declared.kind.Kind.{Kind}
use Rattle.ra_operand.specs.declared.kind.Kind.TheVariants.{Prior}
use Rattle.ra_memory.specs.Image.{History, AreImages}
use Rattle.ra_indirect.specs.Trees.{Tree, constant, join, view, Cell, cell_of, Tracked, same_cell, same_tracked}
use Rattle.ra_indirect.specs.Trees.{cells_in, tracked_by, tracked_in}
use Rattle.ra_memref.specs.Values.{cell_number, tracked_number}
use Rattle.ra_set.specs.Contents.{SetContents}
use Rattle.ra_text.specs.Words.{AreWords}
use Rattle.ra_progress.specs.Contents.{Opening, IsOpening}
use Rattle.ra_meaning.specs.Order.{trees_in_set, set_cells, set_tracked, shape_of}
use Rattle.ra_memref.specs.Names.{cell_name, tracked_name}
use Rattle.ra_meaning.specs.Openings.{number_beside, prior_beside, start_of, snapshot}
use Rattle.ra_member.proofs.Listed.{In, In_split, In_of_firsts, In_one}
use Rattle.ra_meaning.proofs.Each.{each_at, each_drop}
use Rattle.ra_meaning.proofs.Words.Trees.{IsWord, if_word, four_at_most, AreStartWords, cell_word, tracked_word}
use Rattle.ra_meaning.proofs.Words.Groups.{AreAllWords}

mapped_words : {A : Type 0} (f : A → ℕ) (xs : List A) → ((x : A) → In x xs → IsWord (f x)) → AreAllWords (map f xs)
mapped_words f [] each = tt
mapped_words f (x ∷ xs) each = (each x (inl refl), mapped_words f xs (λ y there. each y (inr there)))

narrow_here : (size : Size) (pointer : Tree) (address : ℕ) (c : Cell) → c ≡ cell_of size pointer address → c.width ≤ 4
narrow_here size pointer address c is =
    subst (λ (d : Cell). d.width ≤ 4) (sym is) (four_at_most size)

-- a cell of a tree has four bytes at most
cell_narrow : (c : Cell) (tree : Tree) → In c (cells_in tree) → c.width ≤ 4
cell_narrow c (constant n) there = absurd there
cell_narrow c (join op left right) there = elim (In_split c (cells_in left) (cells_in right) there) [
  | inl front ↦ cell_narrow c left front
  | inr behind ↦ cell_narrow c right behind
]
cell_narrow c (view kind size pointer address) there =
    elim (In_split c (cells_in pointer) (cell_of size pointer address ∷ []) there) [
      | inl front ↦ cell_narrow c pointer front
      | inr behind ↦ elim behind [ inl is ↦ narrow_here size pointer address c is | inr none ↦ absurd none ]
    ]

tracked_here : (kind : Kind) (size : Size) (pointer : Tree) (address : ℕ) (t : Tracked)
    → In t (tracked_by kind size (cell_of size pointer address)) → t.cell.width ≤ 4
tracked_here Prior size pointer address t there = elim there [
  | inl is ↦ subst (λ (s : Tracked). s.cell.width ≤ 4) (sym is) (four_at_most size)
  | inr none ↦ absurd none
]
tracked_here _ size pointer address t there = absurd there

tracked_narrow : (t : Tracked) (tree : Tree) → In t (tracked_in tree) → t.cell.width ≤ 4
tracked_narrow t (constant n) there = absurd there
tracked_narrow t (join op left right) there = elim (In_split t (tracked_in left) (tracked_in right) there) [
  | inl front ↦ tracked_narrow t left front
  | inr behind ↦ tracked_narrow t right behind
]
tracked_narrow t (view kind size pointer address) there = elim
    (In_split t (tracked_in pointer) (tracked_by kind size (cell_of size pointer address)) there) [
      | inl front ↦ tracked_narrow t pointer front
      | inr behind ↦ tracked_here kind size pointer address t behind
    ]

number_words : (cells : List Cell) (numbers : List ℕ) → AreAllWords numbers → (c : Cell)
    → IsWord (number_beside cells numbers c)
number_words [] numbers words c = lit< tt
number_words (d ∷ cells) numbers words c =
    if_word (same_cell d c) (slice_index numbers 0) (number_beside cells (drop 1 numbers) c)
    (each_at IsWord numbers 0 0 (lit< tt) words)
    (number_words cells (drop 1 numbers) (each_drop IsWord 1 numbers words) c)

prior_words : (tracked : List Tracked) (numbers : List ℕ) → AreAllWords numbers → (t : Tracked)
    → IsWord (prior_beside tracked numbers t)
prior_words [] numbers words t = lit< tt
prior_words (s ∷ tracked) numbers words t =
    if_word (same_tracked s t) (slice_index numbers 0) (prior_beside tracked (drop 1 numbers) t)
    (each_at IsWord numbers 0 0 (lit< tt) words)
    (prior_words tracked (drop 1 numbers) (each_drop IsWord 1 numbers words) t)

module _ (set : SetContents) (o : Opening) (is : IsOpening (shape_of set) o) where
  pub start_words : AreStartWords (start_of set o)
  start_words = record {
    numbers = number_words (set_cells set) o.cells is.cells.fit;
    priors = prior_words (set_tracked set) o.priors is.priors.fit;
  }

  pub cells_fit : (history : History) → AreImages history
      → AreWords (length (shape_of set).cells) (snapshot set o history).cells
  cells_fit history images =
      let start = start_of set o in
      let narrow : (c : Cell) → In c (set_cells set) → c.width ≤ 4 = λ c there. let one =
      In_one cells_in c (trees_in_set set) (In_of_firsts same_cell c
      (flat_map cells_in (trees_in_set set)) there) in cell_narrow c one.which one.there in
      record {
        as_many = length-map (set_cells set) (λ c. cell_number start c history)
            ∙ sym (length-map (set_cells set) cell_name);
        fit = mapped_words (λ c. cell_number start c history) (set_cells set)
            (λ c there. cell_word start start_words c (narrow c there) history images);
      }

  pub priors_fit : (history : History) → AreImages history
      → AreWords (length (shape_of set).priors) (snapshot set o history).priors
  priors_fit history images =
      let start = start_of set o in
      let narrow : (t : Tracked) → In t (set_tracked set) → t.cell.width ≤ 4 = λ t there. let one =
      In_one tracked_in t (trees_in_set set) (In_of_firsts same_tracked t
      (flat_map tracked_in (trees_in_set set)) there) in tracked_narrow t one.which one.there in
      record {
        as_many = length-map (set_tracked set) (λ t. tracked_number start t history)
            ∙ sym (length-map (set_tracked set) tracked_name);
        fit = mapped_words (λ t. tracked_number start t history) (set_tracked set)
            (λ t there. tracked_word start start_words t (narrow t there) history images);
      }
