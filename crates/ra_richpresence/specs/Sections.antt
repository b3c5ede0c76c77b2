-- What the lines and the sections of a script contain: docs/DEFINITIONS.md, "Presence scripts" and "Lookup texts".
use Rattle.std.specs.Prelude.{◌≡◌, ℕ, List, length, map}
use Rattle.ra_richpresence.specs.Contents.{keys_contents, lookup_contents}
use Rattle.ra_richpresence.specs.Grammar.{EntryContents, Keyed, SectionContents, Looks, Formats, lookup_with}
use Rattle.ra_richpresence.specs.Grammar as grammar
use Rattle.ra_richpresence.specs.Reading.{HeadContents, OpensLookup, OpensFormat}
use Rattle.ra_richpresence.specs.Texts.{first_over, entry_texts}
use Rattle.ra_richpresence.specs.declared.entries.Entry.{Entry}
use Rattle.ra_richpresence.specs.declared.entries.Entry.TheVariants as entry
use Rattle.ra_richpresence.specs.declared.heads.Head.{Head}
use Rattle.ra_richpresence.specs.declared.heads.Head.TheVariants as head
use Rattle.ra_richpresence.specs.declared.read_lookup.ReadLookup.{ReadLookup}
use Rattle.ra_richpresence.specs.declared.section.Section.{Section}
use Rattle.ra_richpresence.specs.declared.section.Section.TheVariants as section

-- the contents of a line of a lookup
abbrev pub entry_contents : Entry → EntryContents
entry_contents (entry.Keyed keys) = Keyed (keys_contents keys)
entry_contents (entry.Other text) = grammar.Other text.items

-- the contents of the first line of a section
abbrev pub head_contents : Head → HeadContents
head_contents (head.Lookup name) = OpensLookup name.items
head_contents (head.Format name) = OpensFormat name.items

-- the lookup has this name and these lines, and this is the length of its first text over the limit
pub record IsLookupOf (most : ℕ) (name : List ℕ) (entries : List EntryContents) (found : ReadLookup) : Type 0 where
  pub lookup : lookup_contents found.lookup ≡ lookup_with name entries
  pub long : found.long ≡ first_over most (map length (entry_texts entries))

-- the section is this one, a lookup with the length of its first text over the limit
abbrev pub IsSectionOf : ℕ → SectionContents → Section → Type 0
IsSectionOf most (Looks name entries) (section.Lookup found) = IsLookupOf most name entries found
IsSectionOf most (Formats format_name format) (section.Format name other) =
    (name.items ≡ format_name) × (other ≡ format)
IsSectionOf most (Looks name entries) (section.Format other format) = ⊥
IsSectionOf most (Formats name format) (section.Lookup found) = ⊥

-- the name of a section
abbrev pub section_name : Section → List ℕ
section_name (section.Lookup found) = found.lookup.name.items
section_name (section.Format name format) = name.items
