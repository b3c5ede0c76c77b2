-- Where the lines that are left start: the step between the code and docs/DEFINITIONS.md, "First bad place".
use Rattle.std.specs.Prelude.{◌≡◌, ℕ, ◌+◌, ◌<◌, ◌≤◌, ◌==◌, ◌&&◌, true, if◌then◌else◌, List, [], ◌∷◌, ◌++◌, length, take}
use Rattle.std.specs.Prelude.{drop}
use Rattle.ra_richpresence.specs.Cut.{lines_of, content_of, is_nothing, left_of, has_no_feed}

-- what is left of lines that start at this place, each with its own place
abbrev pub placed : ℕ → List (List ℕ) → List (ℕ × List ℕ)
placed at [] = []
placed at (line ∷ lines) =
    if is_nothing (left_of (content_of line)) then placed (at + length line) lines
    else (at, left_of (content_of line)) ∷ placed (at + length line) lines

-- the place of the first of these lines, and the end of the text where there is none
abbrev pub first_place : List (ℕ × List ℕ) → ℕ → ℕ
first_place [] end = end
first_place (line ∷ lines) end = line.0

-- a line without a carriage return at its end
abbrev pub without_return : List ℕ → List ℕ
without_return [] = []
without_return (byte ∷ line) = if byte == 13 && is_nothing line then [] else byte ∷ without_return line

-- the first line feed stands at the place, or there is none and the place is the end
pub record IsFeedAt (text : List ℕ) (at : ℕ) : Type 0 where
  pub within : at ≤ length text
  pub clear : has_no_feed (take at text) ≡ true
  pub feed : (behind : List ℕ) (byte : ℕ) → drop at text ≡ byte ∷ behind → byte ≡ 10

-- the content of the first line of a text, and what follows the line
pub record SplitsLine (text line behind : List ℕ) : Type 0 where
  pub first : List ℕ
  pub parts : text ≡ first ++ behind
  pub content : line ≡ content_of first
  pub clear : has_no_feed line ≡ true
  pub lines : (text ≡ [] → ⊥) → lines_of text ≡ first ∷ lines_of behind
  pub shorter : (text ≡ [] → ⊥) → length behind < length text
