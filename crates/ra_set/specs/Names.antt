-- Names of a set, and what the texts spell that they are taken of: docs/DEFINITIONS.md, "Names of items and scripts".
use Rattle.std.specs.Prelude.{◌≡◌, ℕ, All, List, length, map, replicate, slice_get, Option, Some, None, option_map}
use Rattle.ra_richpresence.specs.Contents.{ScriptContents}
use Rattle.ra_richpresence.specs.Grammar.{ScriptParts, script_parts}
use Rattle.ra_set.specs.Contents.{ItemContents, SetContents}
use Rattle.ra_set.specs.Grammar.{FileContents, achievement, leaderboard, items_of}
use Rattle.ra_set.specs.Texts.{item_texts, script_text}
use Rattle.ra_text.specs.Form.{◌or◌}

-- ---- the texts

-- the text is an achievement or a leaderboard, and spells the item
abbrev pub IsItemText : List ℕ → ItemContents → Type 0
IsItemText text item = (achievement or leaderboard) text (Some item)

-- a text stands exactly where there is a script, and spells it
abbrev pub IsScriptText : Option (List ℕ) → Option ScriptParts → Type 0
IsScriptText (Some text) (Some parts) = script_parts text parts
IsScriptText None None = Unit {0}
IsScriptText _ _ = ⊥

-- of what the file contains the k-th text of an item spells the k-th item, and the text of the script the script
pub record SpellsTexts (file : List ℕ) (contents : FileContents) : Type 0 where
  pub count : length (item_texts file) ≡ length (items_of contents.lines)
  pub items : (k : ℕ) (text : List ℕ) (item : ItemContents)
      → slice_get (item_texts file) k ≡ Some text → slice_get (items_of contents.lines) k ≡ Some item
      → IsItemText text item
  pub script : IsScriptText (script_text file) contents.script

-- ---- the names

-- sixteen bytes
abbrev pub IsName : List ℕ → Type 0
IsName name = length name ≡ 16

-- a name stands exactly where there is a script
abbrev pub NamesScript : Option (List ℕ) → Option ScriptContents → Type 0
NamesScript (Some name) (Some script) = IsName name
NamesScript None None = Unit {0}
NamesScript _ _ = ⊥

-- the set has a name for each item, and one for its script where there is one
pub record IsNamed (set : SetContents) : Type 0 where
  pub count : length set.item_names ≡ length set.items
  pub items : All IsName set.item_names
  pub script : NamesScript set.script_name set.script

-- sixteen zeros, in the place of a name
abbrev pub zero_name : List ℕ
zero_name = replicate 16 0

-- the digest and each name of the set are zeros
pub record HasZeroNames (set : SetContents) : Type 0 where
  pub digest : set.digest ≡ zero_name
  pub items : set.item_names ≡ map (λ item. zero_name) set.items
  pub script : set.script_name ≡ option_map (λ script. zero_name) set.script
