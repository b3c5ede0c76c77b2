-- What a check of a list looks at: docs/DEFINITIONS.md, "Sets from JSON".
use Rattle.std.specs.Prelude.{ℕ, List}
use Rattle.serde_json.specs.Data.{Data}
use Rattle.ra_patch.specs.declared.check.Check.{Check}
use Rattle.ra_patch.specs.declared.check.Check.TheVariants.{AchievementFields, BoardFields, AchievementTexts}
use Rattle.ra_patch.specs.declared.check.Check.TheVariants.{BoardTexts}
use Rattle.ra_patch.specs.declared.refused.PatchRefused.{PatchRefused}
use Rattle.ra_patch.specs.Faults.{achievement_faults, board_faults, achievement_breaks, board_breaks}

-- the faults of an item that a check finds
abbrev pub faults_by : Check → ℕ → Data → List PatchRefused
faults_by AchievementFields = achievement_faults
faults_by BoardFields = board_faults
faults_by AchievementTexts = achievement_breaks
faults_by BoardTexts = board_breaks
