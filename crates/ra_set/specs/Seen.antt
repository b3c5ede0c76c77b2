-- Ids that came: docs/DEFINITIONS.md, "Repeated ids".
use Rattle.std.specs.Prelude.{◌≡◌, ℕ, ◌<◌, ◌==◌, ◌||◌, Bool, true, List}
use Rattle.std.specs.BTreeSet.{BTreeSet, contains}
use Rattle.std.specs.List.{list_any}
use Rattle.std.specs.Ordering.{nat_cmp}

-- an id is in the list or in the tree
abbrev pub is_among : List ℕ → BTreeSet ℕ → ℕ → Bool
is_among rising earlier id = list_any (λ x. x == id) rising || contains nat_cmp earlier id

-- each id of the list and of the tree is below the bound
abbrev pub IsBelow : List ℕ → BTreeSet ℕ → ℕ → Type 0
IsBelow rising earlier bound = (id : ℕ) → is_among rising earlier id ≡ true → id < bound
