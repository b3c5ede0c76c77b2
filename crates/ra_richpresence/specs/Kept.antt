-- The sections of a script that are kept: docs/DEFINITIONS.md, "Lookup texts".
use Rattle.std.specs.Prelude.{◌≡◌, ℕ, List, [], ◌++◌, length, map, bytes_eq, Result, Ok, Err}
use Rattle.std.specs.List.{list_any, filter_map}
use Rattle.ra_condition.specs.declared.fault.Fault.{Fault}
use Rattle.ra_condition.specs.declared.fault.Fault.TheVariants.{Stop, Memory}
use Rattle.ra_text.specs.Reading.{Outcome}
use Rattle.ra_richpresence.specs.Following.{bytes_of}
use Rattle.ra_richpresence.specs.declared.script_line.ScriptLine.{ScriptLine}
use Rattle.ra_richpresence.specs.Contents.{lookup_contents}
use Rattle.ra_richpresence.specs.Grammar.{SectionContents, name_of, is_taken, first_named, lookup_in, format_in}
use Rattle.ra_richpresence.specs.Texts.{first_over, texts_kept}
use Rattle.ra_richpresence.specs.declared.kept.Kept.{Kept}

-- of the sections so far those are kept whose name no earlier one has, each name is taken, and the first long text is
-- known
pub record Keeps (most : ℕ) (sections : List SectionContents) (kept : Kept) : Type 0 where
  pub lookups : map lookup_contents kept.lookups.items ≡ filter_map lookup_in (first_named [] sections)
  pub formats : map (λ format. (format.0.items, format.1)) kept.formats.items
      ≡ filter_map format_in (first_named [] sections)
  pub limit : kept.most ≡ most
  pub long : kept.long ≡ first_over most (map length (texts_kept sections))
  pub names : (name : List ℕ) → list_any (λ taken. bytes_eq name taken.items) kept.names.keys
      ≡ is_taken (map name_of sections) name

-- the sections that were read are kept after those before, unless memory runs out
pub record KeepsAlso (most : ℕ) (before : List SectionContents) (kept : Kept)
    (rest : List ScriptLine) (outcome : Outcome (List ℕ) (List SectionContents)) : Type 0 where
  pub sections : List SectionContents
  pub read : outcome ≡ Ok (sections, bytes_of rest)
  pub keeps : Keeps most (before ++ sections) kept

-- what a call that reads sections leaves
abbrev pub KeepsUnlessFull : ℕ → List SectionContents → Result (Unit {0}) Fault → Kept
    → List ScriptLine → Outcome (List ℕ) (List SectionContents) → Type 0
KeepsUnlessFull most before (Ok done) kept rest outcome = KeepsAlso most before kept rest outcome
KeepsUnlessFull most before (Err Stop) kept rest outcome = outcome ≡ Err (bytes_of rest)
KeepsUnlessFull most before (Err Memory) kept rest outcome = Unit {0}
