-- The numbers of cells and tracked masks, as a changed set finds them by their names.
use Rattle.std.proofs.Common.{◌≡◌, ℕ, true, false, if◌then◌else◌, List, [], ◌∷◌, ◌++◌, length, map, bytes_eq, inl, inr}
use Rattle.std.proofs.Common.{◌⊎◌, refl, sym, ◌∙◌, ap}
use Rattle.std.specs.List.{flat_map}
use Rattle.std.proofs.lemmas.Bool.{true≢false}
use Rattle.std.proofs.lemmas.Simd.{map-map}
use Rattle.std.proofs.lemmas.Slice.Eq.{bytes_eq-Decides}
use Rattle.ra_indirect.specs.Trees.{Tree, Cell, Tracked, same_cell, same_tracked, cells_in, tracked_in}
use Rattle.ra_indirect.proofs.SameLemmas.{cell_is, tracked_is}
use Rattle.ra_memref.specs.Names.{cell_name, tracked_name}
use Rattle.ra_set.specs.Contents.{SetContents}
use Rattle.ra_progress.specs.Contents.{Name}
use Rattle.ra_progress.specs.Layout.{Numbered}
use Rattle.ra_progress.specs.Saying.{last_number}
use Rattle.ra_member.proofs.Listed.{In, In_front, In_flat, In_one, InOne, In_firsts}
use Rattle.ra_meaning.specs.Changed.{NamesTell}
use Rattle.ra_meaning.specs.Openings.{number_beside, prior_beside}
use Rattle.ra_meaning.specs.Order.{trees_in_set, set_cells, set_tracked}
use Rattle.ra_meaning.proofs.Openings.Beside.{apart_firsts, numbers_beside, priors_beside}
use Rattle.ra_meaning.proofs.Openings.Covered.{found_number, found_prior}
use Rattle.ra_meaning.proofs.Changed.SharedOwns.{contains_in}

-- the last number of a name is that of its thing, where the name tells the thing
module _ {A : Type 0} (name : A → Name) (f : A → ℕ) (c : A) where
  -- where the first thing has another name, the thing stands behind it
  still : (d : A) (things : List A) (n : Numbered) (earlier : ℕ) → n.name ≡ name d → bytes_eq n.name
      (name c) ≡ false → In c (d ∷ things) ⊎ (earlier ≡ f c) → In c things ⊎ (earlier ≡ f c)
  still d things n earlier named e known = elim known [
    | inl h ↦ elim h [
      | inl is ↦ absurd (true≢false (sym ((bytes_eq-Decides n.name (name c)).1 (named ∙ ap name (sym is))) ∙ e))
      | inr there ↦ inl there
    ]
    | inr is ↦ inr is
  ]

  last_known : (things : List A) (numbered : List Numbered) (earlier : ℕ)
      → map (λ n. n.name) numbered ≡ map name things → map (λ n. n.number) numbered ≡ map f things
      → ((d : A) → In d things → name d ≡ name c → d ≡ c) → In c things ⊎ (earlier ≡ f c)
      → last_number (name c) numbered earlier ≡ f c
  last_known [] [] earlier names numbers tell known =
      elim known [ inl h ↦ absurd h | inr is ↦ is ]
  last_known [] (n ∷ numbered) earlier names numbers tell known = absurd cc
  last_known (d ∷ things) [] earlier names numbers tell known = absurd cc
  last_known (d ∷ things) (n ∷ numbered) earlier names numbers tell known =
      let named : n.name ≡ name d = cc in
      let number : n.number ≡ f d = cc in
      let more_names : map (λ n. n.name) numbered ≡ map name things = cc in
      let more_numbers : map (λ n. n.number) numbered ≡ map f things = cc in
      elim (bytes_eq n.name (name c)) as (λ b. bytes_eq n.name (name c) ≡ b
      → last_number (name c) numbered (if b then n.number else earlier) ≡ f c) [
        | true ↦ λ e.
            last_known things numbered n.number more_names more_numbers (λ x there same. tell x (inr there) same)
            (inr (number ∙ ap f (tell d (inl refl) (sym named ∙ (bytes_eq-Decides n.name (name c)).0 e))))
        | false ↦ λ e. last_known things numbered earlier more_names more_numbers
            (λ x there same. tell x (inr there) same) (still d things n earlier named e known)
      ] refl

module _ (set changed : SetContents) (numbered : List Numbered) (kept said : List ℕ) where
  pub one_number : (c : Cell) → In c (set_cells set) → In c (set_cells changed)
      → NamesTell cell_name (set_cells set ++ set_cells changed)
      → map (λ n. n.name) numbered ≡ map cell_name (set_cells set) → map (λ n. n.number) numbered
      ≡ kept → length kept ≡ length (set_cells set)
      → said ≡ map (λ name. last_number name numbered 0) (map cell_name (set_cells changed))
      → number_beside (set_cells changed) said c ≡ number_beside (set_cells set) kept c
  one_number c here there tell names numbers long says =
      ap (λ ns. number_beside (set_cells changed) ns c) (says
      ∙ map-map (λ name. last_number name numbered 0) cell_name (set_cells changed))
      ∙ found_number (λ d. last_number (cell_name d) numbered 0) c (set_cells changed) there
      ∙ last_known cell_name (number_beside (set_cells set) kept) c (set_cells set) numbered 0 names
      (numbers ∙ sym (numbers_beside (set_cells set) kept
      (apart_firsts same_cell (flat_map cells_in (trees_in_set set))) long))
      (λ d at same. tell d c (contains_in d (set_cells set ++ set_cells changed)
      (In_front d (set_cells set) (set_cells changed) at)) (contains_in c (set_cells set
      ++ set_cells changed) (In_front c (set_cells set) (set_cells changed) here)) same)
      (inl here)

  pub one_prior : (t : Tracked) → In t (set_tracked set) → In t (set_tracked changed)
      → NamesTell tracked_name (set_tracked set ++ set_tracked changed)
      → map (λ n. n.name) numbered ≡ map tracked_name (set_tracked set)
      → map (λ n. n.number) numbered ≡ kept → length kept ≡ length (set_tracked set)
      → said ≡ map (λ name. last_number name numbered 0) (map tracked_name (set_tracked changed))
      → prior_beside (set_tracked changed) said t ≡ prior_beside (set_tracked set) kept t
  one_prior t here there tell names numbers long says =
      ap (λ ns. prior_beside (set_tracked changed) ns t) (says
      ∙ map-map (λ name. last_number name numbered 0) tracked_name (set_tracked changed))
      ∙ found_prior (λ d. last_number (tracked_name d) numbered 0) t (set_tracked changed) there
      ∙ last_known tracked_name (prior_beside (set_tracked set) kept) t (set_tracked set) numbered 0 names
      (numbers ∙ sym (priors_beside (set_tracked set) kept
      (apart_firsts same_tracked (flat_map tracked_in (trees_in_set set))) long))
      (λ d at same. tell d t (contains_in d (set_tracked set ++ set_tracked changed)
      (In_front d (set_tracked set) (set_tracked changed) at)) (contains_in t (set_tracked set
      ++ set_tracked changed) (In_front t (set_tracked set) (set_tracked changed) here)) same)
      (inl here)

-- the cells and the tracked masks of trees of a set are the set's
abbrev pub TreesOf : SetContents → List Tree → Type 0
TreesOf set trees = (tree : Tree) → In tree trees → In tree (trees_in_set set)

pub cell_listed : (set : SetContents) (trees : List Tree) → TreesOf set trees → (c : Cell)
    → In c (flat_map cells_in trees) → In c (set_cells set)
cell_listed set trees within c h =
    let one : InOne cells_in c trees = In_one cells_in c trees h in
    In_firsts same_cell cell_is c (flat_map cells_in (trees_in_set set))
    (In_flat cells_in one.which c (trees_in_set set) (within one.which one.listed) one.there)

pub tracked_listed : (set : SetContents) (trees : List Tree) → TreesOf set trees → (t : Tracked)
    → In t (flat_map tracked_in trees) → In t (set_tracked set)
tracked_listed set trees within t h =
    let one : InOne tracked_in t trees = In_one tracked_in t trees h in
    In_firsts same_tracked tracked_is t (flat_map tracked_in (trees_in_set set))
    (In_flat tracked_in one.which t (trees_in_set set) (within one.which one.listed) one.there)
