-- How the fields of linked lists stand for a row of lists: docs/INTERNALS.md, "Linked lists".
use Rattle.std.specs.Prelude.{◌≡◌, ◌≢◌, ℕ, zero, suc, ◌<◌, ◌≤◌, ◌^◌, ◌==◌, if◌then◌else◌, true, List, [], ◌∷◌, length}
use Rattle.std.specs.Prelude.{map, slice_index, slice_set}
use Rattle.ra_links.specs.Rows.{holds}

-- the number that stands for no node and for no list
abbrev pub none : ℕ
none = 4294967295

-- for each node its list, the node before it and the node after it
pub record Nodes : Type 0 where
  pub holders : List ℕ
  pub befores : List ℕ
  pub afters : List ℕ

-- this node and those after it, at most this many
abbrev pub followed : ℕ → List ℕ → ℕ → List ℕ
followed zero afters node = []
followed (suc most) afters node =
    if node == none then [] else node ∷ followed most afters (slice_index afters node)

-- the list of each of these first nodes
abbrev pub rows_of : List ℕ → List ℕ → List (List ℕ)
rows_of firsts afters = map (followed (length afters) afters) firsts

-- the fields link this row, on the list of this number, from the node on, with this node before it
abbrev pub IsRow : Nodes → (list before node : ℕ) → List ℕ → Type 0
IsRow nodes list before node [] = node ≡ none
IsRow nodes list before node (x ∷ row) =
    (node ≡ x) × (x < length nodes.afters) × (slice_index nodes.holders x ≡ list)
    × (slice_index nodes.befores x ≡ before) × IsRow nodes list x (slice_index nodes.afters x) row

-- each list is linked from its first node on, and each node that names a list stands on it
pub record IsLinked (firsts holders befores afters : List ℕ) : Type 0 where
  pub holders_long : length holders ≡ length afters
  pub befores_long : length befores ≡ length afters
  pub few_nodes : length afters ≤ 2 ^ 31
  pub few_lists : length firsts ≤ 2 ^ 31
  pub rows : (list : ℕ) → list < length firsts
      → IsRow (record { holders = holders; befores = befores; afters = afters }) list none
      (slice_index firsts list) (followed (length afters) afters (slice_index firsts list))
  pub listed : (node : ℕ) → node < length afters → slice_index holders node ≢ none
      → slice_index holders node < length firsts
  pub held : (node : ℕ) → node < length afters → slice_index holders node ≢ none → holds node
      (followed (length afters) afters (slice_index firsts (slice_index holders node))) ≡ true

-- the numbers of the nodes, once this one is noted at a node; none has no number
abbrev pub noted_at : List ℕ → ℕ → ℕ → List ℕ
noted_at numbers node number = if node == none then numbers else slice_set numbers node number
