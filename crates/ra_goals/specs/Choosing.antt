-- The achievement of an id: docs/DEFINITIONS.md, "Explanations".
use Rattle.std.specs.Prelude.{ℕ, ◌==◌, if◌then◌else◌, Option, None, Some, List, [], ◌∷◌}
use Rattle.ra_condition.specs.Contents.{TriggerContents}
use Rattle.ra_set.specs.Contents.{ItemContents, Unlocks, Ranks}

-- the trigger of the achievement of an id, where a set has one; a leaderboard of that id is none
abbrev pub trigger_of : (id : ℕ) → List ItemContents → Option TriggerContents
trigger_of id [] = None
trigger_of id (Unlocks other t ∷ items) = if other == id then Some t else trigger_of id items
trigger_of id (Ranks other format b ∷ items) = trigger_of id items
