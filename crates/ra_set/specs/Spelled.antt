-- The structure of the sets that some file spells: docs/DEFINITIONS.md, "What texts spell".
use Rattle.std.specs.Prelude.{◌<◌, ◌^◌, All, Option, Some, None, length}
use Rattle.ra_condition.specs.Spelled.{IsTrigger}
use Rattle.ra_leaderboard.specs.Spelled.{IsBoard}
use Rattle.ra_richpresence.specs.Contents.{ScriptContents}
use Rattle.ra_richpresence.specs.Spelled.{IsScript}
use Rattle.ra_value_format.specs.Formats.{HasDigits}
use Rattle.ra_set.specs.Contents.{ItemContents, Unlocks, Ranks, SetContents}
use Rattle.ra_set.specs.Refusals.{id_of}

-- some line spells the item but for its id: a spelled trigger, or a spelled board and a format that a name has
abbrev pub IsItem : ItemContents → Type 0
IsItem (Unlocks id t) = IsTrigger t
IsItem (Ranks id format b) = IsBoard b × HasDigits format

-- a script that is there is one that some text spells, with fewer lines than 2^32
abbrev pub OptionalScript : Option ScriptContents → Type 0
OptionalScript None = Unit {0}
OptionalScript (Some script) = IsScript script × (length script.lines < 2 ^ 32)

-- the set has its structure: each item has it, and the script is spelled by some text
pub record IsSpelled (set : SetContents) : Type 0 where
  pub items : All IsItem set.items
  pub script : OptionalScript set.script

-- the id of the item is a number of 32 bits
abbrev pub HasSmallId : ItemContents → Type 0
HasSmallId x = id_of x < 2 ^ 32
