-- The first bad place of a presence script: docs/DEFINITIONS.md, "First bad place".
use Rattle.std.specs.Prelude.{◌≡◌, ℕ, ◌<◌, ◌≤◌, suc, List, ◌++◌, length, take}
use Rattle.std.specs.List.{flat_map}
use Rattle.ra_richpresence.specs.Contents.{ScriptContents}
use Rattle.ra_richpresence.specs.Cut.{lines_of, contents_of}
use Rattle.ra_richpresence.specs.Grammar.{script}

-- some script of the grammar has these as its first lines
pub record IsFront (lines : List (List ℕ)) : Type 0 where
  pub text : List ℕ
  pub v : ScriptContents
  pub whole : script text v
  pub more : List (List ℕ)
  pub begins : contents_of text ≡ lines ++ more

-- where the line of this index starts, and the length for the index after the last
abbrev pub line_start : List ℕ → ℕ → ℕ
line_start text index = length (flat_map (λ line. line) (take index (lines_of text)))

-- the place is where the first line starts with which no script goes on, or the length where there is none
pub record IsFirstBad (text : List ℕ) (place : ℕ) : Type 0 where
  pub index : ℕ
  pub within : index ≤ length (lines_of text)
  pub good : IsFront (take index (contents_of text))
  pub bad : index < length (lines_of text) → IsFront (take (suc index) (contents_of text)) → ⊥
  pub is : place ≡ line_start text index

-- the text is no script, and the place is its first bad one
pub record IsOutside (text : List ℕ) (place : ℕ) : Type 0 where
  pub first_bad : IsFirstBad text place
  pub outside : (v : ScriptContents) → script text v → ⊥
