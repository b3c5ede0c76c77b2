-- A row of lists of numbers: docs/INTERNALS.md, "Linked lists".
use Rattle.std.specs.Prelude.{◌≡◌, ℕ, ◌<◌, Bool, true, not, eqb, ◌+◌, ◌==◌, if◌then◌else◌, Option, None, Some, List, []}
use Rattle.std.specs.Prelude.{◌∷◌, filter, slice_get, slice_index_or}
use Rattle.std.specs.List.{list_any, IsDistinct}

-- the lists, and how many nodes there are, on a list or on none
pub record Rows : Type 0 where
  pub lists : List (List ℕ)
  pub nodes : ℕ

-- a list holds the node
abbrev pub holds : ℕ → List ℕ → Bool
holds node row = list_any (λ x. x == node) row

-- the list of this number, empty where there is none
abbrev pub row_at : List (List ℕ) → ℕ → List ℕ
row_at lists list = slice_index_or lists list []

-- the number of the list that holds the node, if one does, counted from this number on
abbrev pub holder_from : ℕ → List (List ℕ) → ℕ → Option ℕ
holder_from number [] node = None
holder_from number (row ∷ lists) node =
    if holds node row then Some number else holder_from (number + 1) lists node

-- the number of the list that holds the node, if one does
abbrev pub holder_of : List (List ℕ) → ℕ → Option ℕ
holder_of lists node = holder_from 0 lists node

-- the number directly after the node in a list
abbrev pub after_in : ℕ → List ℕ → Option ℕ
after_in node [] = None
after_in node (x ∷ row) = if x == node then slice_get row 0 else after_in node row

-- the number directly after the node in the list that holds it
abbrev pub next_of : List (List ℕ) → ℕ → Option ℕ
next_of [] node = None
next_of (row ∷ lists) node = if holds node row then after_in node row else next_of lists node

-- a list with the node taken out, and the order of the rest as it was
abbrev pub without : ℕ → List ℕ → List ℕ
without node row = filter (λ x. not (x == node)) row

-- a node stands at most once in all lists together, and only nodes stand there
pub record IsOnce (row : Rows) : Type 0 where
  pub one_list : (k l node : ℕ) → holds node (row_at row.lists k) ≡ true
      → holds node (row_at row.lists l) ≡ true → k ≡ l
  pub one_place : (k : ℕ) → IsDistinct eqb (row_at row.lists k)
  pub in_range : (k node : ℕ) → holds node (row_at row.lists k) ≡ true → node < row.nodes
