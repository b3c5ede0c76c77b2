-- What an opening gives after a history agrees, on the cells of a set, with what stands there.
use Rattle.std.proofs.Common.{◌≡◌, ℕ, true, false, inl, inr, List, [], ◌∷◌, ◌++◌, map, refl, sym, ◌∙◌, ap, subst}
use Rattle.std.specs.List.{flat_map}
use Rattle.ra_operand.specs.declared.kind.Kind.{Kind}
use Rattle.ra_operand.specs.declared.kind.Kind.TheVariants.{Mem, Delta, Prior, Bcd, Inverted}
use Rattle.ra_operand.specs.declared.size.Size.{Size}
use Rattle.ra_memory.specs.Image.{History}
use Rattle.ra_indirect.specs.Trees.{Tree, constant, join, view, Cell, cell_of, Tracked, same_cell, same_tracked}
use Rattle.ra_indirect.specs.Trees.{cells_in, tracked_in, tracked_by}
use Rattle.ra_indirect.proofs.SameLemmas.{cell_is, cell_itself, tracked_is, tracked_itself}
use Rattle.ra_memref.specs.Values.{Start, value_of, cell_number, tracked_number, number_of, prior_of, masked_by}
use Rattle.ra_memref.specs.Values.{start_after}
use Rattle.ra_memref.proofs.Cuts.{cell_cut, tracked_cut}
use Rattle.ra_set.specs.Contents.{SetContents}
use Rattle.ra_progress.specs.Contents.{Opening}
use Rattle.ra_meaning.specs.Order.{trees_in_set, set_cells, set_tracked}
use Rattle.ra_meaning.specs.Openings.{number_beside, prior_beside, start_of, snapshot}
use Rattle.ra_member.proofs.Listed.{In, In_front, In_behind, In_split, In_flat, In_firsts, In_of_firsts, InOne, In_one}
use Rattle.ra_member.proofs.Listed.{map_agree}
use Rattle.ra_meaning.proofs.Openings.Agreeing.{value_agrees}

-- beside a list of cells stand the numbers that a function gives them
pub found_number : (f : Cell → ℕ) (c : Cell) (cells : List Cell) → In c cells
    → number_beside cells (map f cells) c ≡ f c
found_number f c [] h = absurd h
found_number f c (d ∷ cells) h = elim (same_cell d c) as (λ b. same_cell d c ≡ b
    → number_beside (d ∷ cells) (map f (d ∷ cells)) c ≡ f c) [
      | true ↦ λ e. rw e (ap f (cell_is d c e))
      | false ↦ λ e. rw e (elim h [
        | inl is ↦ absurd (let bad : true ≡ false = sym (cell_itself c) ∙ ap (λ x. same_cell x c) is ∙ e in cc)
        | inr r ↦ found_number f c cells r
      ])
    ] refl

pub found_prior : (f : Tracked → ℕ) (t : Tracked) (tracked : List Tracked) → In t tracked
    → prior_beside tracked (map f tracked) t ≡ f t
found_prior f t [] h = absurd h
found_prior f t (s ∷ tracked) h = elim (same_tracked s t) as (λ b. same_tracked s t ≡ b
    → prior_beside (s ∷ tracked) (map f (s ∷ tracked)) t ≡ f t) [
      | true ↦ λ e. rw e (ap f (tracked_is s t e))
      | false ↦ λ e. rw e (elim h [
        | inl is ↦ absurd (let bad : true ≡ false = sym (tracked_itself t) ∙ ap (λ x. same_tracked x t) is ∙ e in cc)
        | inr r ↦ found_prior f t tracked r
      ])
    ] refl

-- the pointer of a cell of a tree looks at cells of that tree, and a tracked mask is of one of its cells
pointer_cells : (tree : Tree) (c d : Cell) → In c (cells_in tree) → In d (cells_in c.pointer) → In d (cells_in tree)
pointer_cells (constant n) c d h there = absurd h
pointer_cells (join op left right) c d h there = elim (In_split c (cells_in left) (cells_in right) h) [
  | inl front ↦ In_front d (cells_in left) (cells_in right) (pointer_cells left c d front there)
  | inr behind ↦ In_behind d (cells_in left) (cells_in right) (pointer_cells right c d behind there)
]
pointer_cells (view kind size pointer address) c d h there =
    elim (In_split c (cells_in pointer) (cell_of size pointer address ∷ []) h) [
      | inl front ↦ In_front d (cells_in pointer) (cell_of size pointer address ∷ [])
          (pointer_cells pointer c d front there)
      | inr behind ↦ elim behind [
        | inl is ↦ In_front d (cells_in pointer) (cell_of size pointer address ∷ [])
            (subst (λ (x : Cell). In d (cells_in x.pointer)) is there)
        | inr no_more ↦ absurd no_more
      ]
    ]

pointer_tracked : (tree : Tree) (c : Cell) (t : Tracked) → In c (cells_in tree)
    → In t (tracked_in c.pointer) → In t (tracked_in tree)
pointer_tracked (constant n) c t h there = absurd h
pointer_tracked (join op left right) c t h there = elim (In_split c (cells_in left) (cells_in right) h) [
  | inl front ↦ In_front t (tracked_in left) (tracked_in right) (pointer_tracked left c t front there)
  | inr behind ↦ In_behind t (tracked_in left) (tracked_in right) (pointer_tracked right c t behind there)
]
pointer_tracked (view kind size pointer address) c t h there =
    elim (In_split c (cells_in pointer) (cell_of size pointer address ∷ []) h) [
      | inl front ↦ In_front t (tracked_in pointer) (tracked_by kind size
          (cell_of size pointer address)) (pointer_tracked pointer c t front there)
      | inr behind ↦ elim behind [
        | inl is ↦ In_front t (tracked_in pointer) (tracked_by kind size (cell_of size pointer address))
            (subst (λ (x : Cell). In t (tracked_in x.pointer)) is there)
        | inr no_more ↦ absurd no_more
      ]
    ]

tracked_by_is : (kind : Kind) (size : Size) (c : Cell) (t : Tracked) → In t (tracked_by kind size c) → t.cell ≡ c
tracked_by_is Prior size c t h = elim h [ inl is ↦ ap (λ (x : Tracked). x.cell) is | inr no_more ↦ absurd no_more ]
tracked_by_is Mem size c t h = absurd h
tracked_by_is Delta size c t h = absurd h
tracked_by_is Bcd size c t h = absurd h
tracked_by_is Inverted size c t h = absurd h

tracked_cell : (tree : Tree) (t : Tracked) → In t (tracked_in tree) → In t.cell (cells_in tree)
tracked_cell (constant n) t h = absurd h
tracked_cell (join op left right) t h = elim (In_split t (tracked_in left) (tracked_in right) h) [
  | inl front ↦ In_front t.cell (cells_in left) (cells_in right) (tracked_cell left t front)
  | inr behind ↦ In_behind t.cell (cells_in left) (cells_in right) (tracked_cell right t behind)
]
tracked_cell (view kind size pointer address) t h =
    elim (In_split t (tracked_in pointer) (tracked_by kind size (cell_of size pointer address)) h) [
      | inl front ↦ In_front t.cell (cells_in pointer) (cell_of size pointer address ∷ [])
          (tracked_cell pointer t front)
      | inr behind ↦ In_behind t.cell (cells_in pointer) (cell_of size pointer address ∷ [])
          (inl (tracked_by_is kind size (cell_of size pointer address) t behind))
    ]

module _ (set : SetContents) (o : Opening) (earlier : History) where
  -- what stands after the history, and what the opening there gives
  abbrev pub there : Start
  there = start_after (start_of set o) earlier

  abbrev pub opened : Start
  opened = start_of set (snapshot set o earlier)

  number_is : (c : Cell) → In c (flat_map cells_in (trees_in_set set)) → opened.number c ≡ there.number c
  number_is c h =
      found_number (λ d. cell_number (start_of set o) d earlier) c (set_cells set)
      (In_firsts same_cell cell_is c (flat_map cells_in (trees_in_set set)) h)

  prior_is : (t : Tracked) → In t (flat_map tracked_in (trees_in_set set)) → opened.prior t ≡ there.prior t
  prior_is t h =
      found_prior (λ s. tracked_number (start_of set o) s earlier) t (set_tracked set)
      (In_firsts same_tracked tracked_is t (flat_map tracked_in (trees_in_set set)) h)

  -- a tree of the set has one value by either
  pub tree_alike : (tree : Tree) → In tree (trees_in_set set) → (h : History)
      → value_of opened tree h ≡ value_of there tree h
  tree_alike tree listed =
      value_agrees opened there tree (record {
        numbers = λ c at. number_is c (In_flat cells_in tree c (trees_in_set set) listed at);
        priors = λ t at. prior_is t (In_flat tracked_in tree t (trees_in_set set) listed at);
      })

  -- and so has the pointer of a cell of one of its trees
  pointer_alike : (tree : Tree) → In tree (trees_in_set set) → (c : Cell) → In c (cells_in tree)
      → (h : History) → value_of opened c.pointer h ≡ value_of there c.pointer h
  pointer_alike tree listed c within =
      value_agrees opened there c.pointer (record {
        numbers = λ d at. number_is d
            (In_flat cells_in tree d (trees_in_set set) listed (pointer_cells tree c d within at));
        priors = λ t at. prior_is t (In_flat tracked_in tree t (trees_in_set set) listed
            (pointer_tracked tree c t within at));
      })

  cell_alike : (tree : Tree) → In tree (trees_in_set set) → (c : Cell) → In c (cells_in tree)
      → (h : History) → cell_number opened c h ≡ cell_number there c h
  cell_alike tree listed c within h =
      let first = number_is c (In_flat cells_in tree c (trees_in_set set) listed within) in
      let pointers = pointer_alike tree listed c within in
      (λ i. number_of (first i) (λ k. pointers k i) c.address c.width h)

  tracked_alike : (tree : Tree) → In tree (trees_in_set set) → (t : Tracked) → In t
      (tracked_in tree) → (h : History) → tracked_number opened t h ≡ tracked_number there t h
  tracked_alike tree listed t within h =
      let cells = cell_alike tree listed t.cell (tracked_cell tree t within) in
      let first = prior_is t (In_flat tracked_in tree t (trees_in_set set) listed within) in
      (λ i. prior_of (masked_by t.mask (λ k. cells k i)) (first i) h)

  -- the numbers of the set's cells and of its tracked masks, where the history goes on
  pub cells_cut : (later : History) → map (λ c. cell_number (start_of set o) c (later ++ earlier))
      (set_cells set) ≡ map (λ c. cell_number opened c later) (set_cells set)
  cells_cut later = map_agree (λ c. cell_number (start_of set o) c (later ++ earlier))
      (λ c. cell_number opened c later) (set_cells set) (λ c at.
      let one : InOne cells_in c (trees_in_set set) = In_one cells_in c (trees_in_set set)
      (In_of_firsts same_cell c (flat_map cells_in (trees_in_set set)) at) in
      cell_cut (start_of set o) earlier c later ∙ sym (cell_alike one.which one.listed c one.there later))

  pub priors_cut : (later : History) → map (λ t. tracked_number (start_of set o) t (later
      ++ earlier)) (set_tracked set) ≡ map (λ t. tracked_number opened t later) (set_tracked set)
  priors_cut later = map_agree (λ t. tracked_number (start_of set o) t (later ++ earlier))
      (λ t. tracked_number opened t later) (set_tracked set) (λ t at.
      let one : InOne tracked_in t (trees_in_set set) = In_one tracked_in t (trees_in_set set)
      (In_of_firsts same_tracked t (flat_map tracked_in (trees_in_set set)) at) in
      tracked_cut (start_of set o) earlier t later ∙ sym (tracked_alike one.which one.listed t one.there later))
