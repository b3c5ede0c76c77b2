-- The first bad place of a set file: docs/DEFINITIONS.md, "First bad place".
use Rattle.std.specs.Prelude.{◌≡◌, ◌⊎◌, ℕ, ◌+◌, List, [], ◌++◌, length}
use Rattle.ra_richpresence.specs.Places.{IsFirstBad}
use Rattle.ra_set.specs.Grammar.{FileContents, Line, script_head, last_head, set_file}
use Rattle.ra_text.specs.Place.{IsBadPlace}

-- the file has a line "P" after lines that each have their end, the front goes up to its end, and this text comes after
-- it
pub record HasScript (file front text : List ℕ) : Type 0 where
  pub parts : file ≡ front ++ text
  pub lines : List Line
  pub opens : script_head front lines ⊎ ((text ≡ []) × last_head front lines)

-- the place is that of the script after a line "P", counted from the start of the file
pub record IsScriptPlace (file : List ℕ) (at : ℕ) : Type 0 where
  pub front : List ℕ
  pub text : List ℕ
  pub begun : HasScript file front text
  pub place : ℕ
  pub first_bad : IsFirstBad text place
  pub is : at ≡ length front + place

-- there is no line "P", and the place is the length of the longest front that begins some set file
pub record IsLinePlace (file : List ℕ) (at : ℕ) : Type 0 where
  pub no_script : (front text : List ℕ) → HasScript file front text → ⊥
  pub bad : IsBadPlace set_file file at

-- the file is no set file, and the place is its first bad one
pub record IsFileOutside (file : List ℕ) (at : ℕ) : Type 0 where
  pub place : IsScriptPlace file at ⊎ IsLinePlace file at
  pub outside : (contents : FileContents) → set_file file contents → ⊥
