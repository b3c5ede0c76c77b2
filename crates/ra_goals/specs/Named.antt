-- Which items of a set are achievements of some ids: docs/DEFINITIONS.md, "Calls from C".
use Rattle.std.specs.Prelude.{ℕ, ◌==◌, ◌&&◌, not, Bool, List}
use Rattle.std.specs.List.{list_any}
use Rattle.ra_goals.specs.Goals.{is_board}
use Rattle.ra_goals.specs.declared.goal.Goal.{Goal}

-- an id is among these
abbrev pub has_id : (ids : List ℕ) → (id : ℕ) → Bool
has_id ids id = list_any (λ other. other == id) ids

-- what aims at this is an achievement, and its id is among these
abbrev pub is_named : (ids : List ℕ) → Goal → Bool
is_named ids goal = not (is_board goal.kind) && has_id ids goal.id
