-- What is counted of a set: docs/DEFINITIONS.md, "Counts of a set".
use Rattle.std.specs.Prelude.{ℕ, ◌+◌, Option, None, Some, List, [], ◌∷◌}
use Rattle.ra_richpresence.specs.Contents.{ScriptContents}
use Rattle.ra_set.specs.Contents.{ItemContents, Unlocks, Ranks}

-- how many achievements a set has
abbrev pub achievements_in : List ItemContents → ℕ
achievements_in [] = 0
achievements_in (Unlocks id t ∷ items) = achievements_in items + 1
achievements_in (Ranks id format b ∷ items) = achievements_in items

-- how many leaderboards a set has
abbrev pub boards_in : List ItemContents → ℕ
boards_in [] = 0
boards_in (Unlocks id t ∷ items) = boards_in items
boards_in (Ranks id format b ∷ items) = boards_in items + 1

-- a script counts as one
abbrev pub scripts_in : Option ScriptContents → ℕ
scripts_in None = 0
scripts_in (Some script) = 1
