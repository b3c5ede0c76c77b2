-- What was read of a file: the step between the code and docs/DEFINITIONS.md, "Set file".
use Rattle.std.specs.Prelude.{◌≡◌, ℕ, ◌+◌, Bool, true, false, List, map, Option, Some, None, option_map}
use Rattle.ra_richpresence.specs.Contents.{ScriptContents, script_contents}
use Rattle.ra_richpresence.specs.Places.{IsOutside}
use Rattle.ra_richpresence.specs.Texts.{IsRead}
use Rattle.ra_richpresence.specs.declared.read.ReadScript.{ReadScript}
use Rattle.ra_set.specs.declared.read_file.ReadFile.{ReadFile}
use Rattle.ra_set.specs.declared.refused.SetRefused.{SetRefused}
use Rattle.ra_set.specs.declared.refused.SetRefused.TheVariants.{Syntax}
use Rattle.ra_set.specs.Contents.{item_contents}
use Rattle.ra_set.specs.Grammar.{FileContents, items_of}
use Rattle.ra_set.specs.Limits.{most_text}
use Rattle.ra_set.specs.Refusals.{HasDistinct}
use Rattle.ra_set.specs.ScriptLimits.{IsReadOf}

-- the script that was read, if there is one
abbrev pub script_read : Option ReadScript → Option ScriptContents
script_read read = option_map (λ r. script_contents r.script) read

-- the text after a line "P" was read as a script, or there is no such line
abbrev pub IsReadBehind : Bool → List ℕ → Option ReadScript → Type 0
IsReadBehind true text (Some read) = IsRead text most_text read
IsReadBehind false text None = Unit {0}
IsReadBehind _ text _ = ⊥

-- the text is no script, and its first bad place is told from the start of the file, where it starts at this place
abbrev pub IsBadText : List ℕ → ℕ → SetRefused → Type 0
IsBadText text start why = (place : ℕ) × IsOutside text place × (why ≡ Syntax (start + place))

-- there is a line "P", and the text after it is no script
abbrev pub IsBadScript : Bool → List ℕ → ℕ → SetRefused → Type 0
IsBadScript true text start why = IsBadText text start why
IsBadScript false text start why = ⊥

-- what was read is what the file contains, and no two items of one letter have one id
pub record IsReadFile (file : List ℕ) (read : ReadFile) : Type 0 where
  pub contents : FileContents
  pub distinct : HasDistinct file contents
  pub items : map item_contents read.items.items ≡ items_of contents.lines
  pub script : IsReadOf contents.script read.script
