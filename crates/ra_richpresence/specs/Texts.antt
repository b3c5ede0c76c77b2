-- The texts of the lookups of a script, as they stand in it: docs/DEFINITIONS.md, "Lookup texts".
use Rattle.std.specs.Prelude.{◌≡◌, ℕ, nat_le, if◌then◌else◌, Option, None, Some, List, [], ◌∷◌, length, map}
use Rattle.std.specs.List.{flat_map}
use Rattle.ra_richpresence.specs.Contents.{script_contents}
use Rattle.ra_richpresence.specs.Grammar.{EntryContents, Keyed, Other, SectionContents, Looks, Formats, first_named}
use Rattle.ra_richpresence.specs.Grammar.{ScriptParts, script_parts, script_of}
use Rattle.ra_richpresence.specs.declared.read.ReadScript.{ReadScript}

-- the texts of the keys lines of a lookup, in order
abbrev pub keyed_texts : List EntryContents → List (List ℕ)
keyed_texts [] = []
keyed_texts (Keyed found ∷ entries) = found.text ∷ keyed_texts entries
keyed_texts (Other text ∷ entries) = keyed_texts entries

-- the texts that a lookup keeps, in order: those of its keys lines, and of its `*` lines that of the first
abbrev pub entry_texts : List EntryContents → List (List ℕ)
entry_texts [] = []
entry_texts (Keyed found ∷ entries) = found.text ∷ entry_texts entries
entry_texts (Other text ∷ entries) = text ∷ keyed_texts entries

-- the texts that a section keeps; a format has none
abbrev pub texts_of : SectionContents → List (List ℕ)
texts_of (Looks lookup_name entries) = entry_texts entries
texts_of (Formats format_name format) = []

-- the texts of these sections that are kept: of those that share a name, those of the first
abbrev pub texts_kept : List SectionContents → List (List ℕ)
texts_kept sections = flat_map texts_of (first_named [] sections)

-- the texts of the lookups that a script keeps, in the order of the file
abbrev pub kept_texts : ScriptParts → List (List ℕ)
kept_texts parts = texts_kept parts.sections

-- the first of the numbers that is over the limit, if one is
abbrev pub first_over : (most : ℕ) → List ℕ → Option ℕ
first_over most [] = None
first_over most (n ∷ ns) = if nat_le n most then first_over most ns else Some n

-- what was read is the script of these parts, with the length of the first of its texts over the limit
pub record IsScriptOf (most : ℕ) (parts : ScriptParts) (read : ReadScript) : Type 0 where
  pub made : script_contents read.script ≡ script_of parts
  pub long : read.long ≡ first_over most (map length (kept_texts parts))

-- what was read is the script of parts that the text spells
pub record IsRead (text : List ℕ) (most : ℕ) (read : ReadScript) : Type 0 where
  pub parts : ScriptParts
  pub spelled : script_parts text parts
  pub is : IsScriptOf most parts read
