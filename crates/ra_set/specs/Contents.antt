-- What a set contains: docs/DEFINITIONS.md, "Set file".
use Rattle.std.specs.Prelude.{ℕ, Option, option_map, List, map}
use Rattle.ra_condition.specs.Contents.{TriggerContents, trigger_contents}
use Rattle.ra_leaderboard.specs.Contents.{BoardContents, board_contents}
use Rattle.ra_richpresence.specs.Contents.{ScriptContents, script_contents}
use Rattle.ra_value_format.specs.declared.format.Format.{Format}
use Rattle.ra_set.specs.declared.item.Item.{Item}
use Rattle.ra_set.specs.declared.item.Item.TheVariants.{Achievement, Leaderboard}
use Rattle.ra_set.specs.declared.set.Set.{Set}

-- an item of a set: an achievement, or a leaderboard with the format of its values
pub data ItemContents : Type 0 where
  Unlocks : (id : ℕ) → TriggerContents → ItemContents
  Ranks : (id : ℕ) → Format → BoardContents → ItemContents

-- the contents of an item
abbrev pub item_contents : Item → ItemContents
item_contents (Achievement id text) = Unlocks id (trigger_contents text)
item_contents (Leaderboard id format text) = Ranks id format (board_contents text.value)

-- what a set contains: items in text order, a presence script where there is one, the digest of its file, and names
pub record SetContents : Type 0 where
  pub items : List ItemContents
  pub script : Option ScriptContents
  pub digest : List ℕ
  pub item_names : List (List ℕ)
  pub script_name : Option (List ℕ)

-- the contents of a set
abbrev pub set_contents : Set → SetContents
set_contents s = record {
  items = map item_contents s.items.items;
  script = option_map script_contents s.script;
  digest = s.digest;
  item_names = s.item_names.items;
  script_name = s.script_name;
}
