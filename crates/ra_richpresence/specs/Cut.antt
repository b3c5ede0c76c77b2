-- How a script is cut into lines, and what is left of each: docs/DEFINITIONS.md, "Presence scripts".
use Rattle.std.specs.Prelude.{ℕ, ◌==◌, ◌&&◌, ◌||◌, Bool, true, false, not, if◌then◌else◌, List, [], ◌∷◌, map, bytes_eq}
use Rattle.std.specs.List.{list_any, filter}
use Rattle.ra_text.specs.Reading.{begins}

-- the lines, with a byte before the first of them
abbrev pub begun : ℕ → List (List ℕ) → List (List ℕ)
begun byte [] = (byte ∷ []) ∷ []
begun byte (line ∷ lines) = (byte ∷ line) ∷ lines

-- the lines of a text with their ends: each goes up to its line feed, and the last may end with the text
abbrev pub lines_of : List ℕ → List (List ℕ)
lines_of [] = []
lines_of (byte ∷ text) = if byte == 10 then (10 ∷ []) ∷ lines_of text else begun byte (lines_of text)

-- the bytes are the end of a line: a line feed, or a carriage return and a line feed
abbrev pub is_end : List ℕ → Bool
is_end [] = false
is_end (byte ∷ []) = byte == 10
is_end (byte ∷ next ∷ []) = byte == 13 && next == 10
is_end (byte ∷ next ∷ third ∷ others) = false

-- the content of a line: the line without its end
abbrev pub content_of : List ℕ → List ℕ
content_of [] = []
content_of (byte ∷ line) = if is_end (byte ∷ line) then [] else byte ∷ content_of line

-- the contents of the lines of a text
abbrev pub contents_of : List ℕ → List (List ℕ)
contents_of text = map content_of (lines_of text)

-- a comment begins, with `//`
abbrev pub begins_comment : List ℕ → Bool
begins_comment [] = false
begins_comment (byte ∷ line) = byte == 47 && begins (λ next. next == 47) line

-- what stands before the first `//`
abbrev pub uncommented : List ℕ → List ℕ
uncommented [] = []
uncommented (byte ∷ line) = if begins_comment (byte ∷ line) then [] else byte ∷ uncommented line

-- a space or a tab
abbrev pub is_blank : ℕ → Bool
is_blank byte = byte == 32 || byte == 9

-- no byte is left
abbrev pub is_nothing : List ℕ → Bool
is_nothing [] = true
is_nothing (byte ∷ line) = false

-- a byte before what is left of the bytes after it: a blank before nothing goes too
abbrev pub before_trimmed : ℕ → List ℕ → List ℕ
before_trimmed byte rest = if is_blank byte && is_nothing rest then [] else byte ∷ rest

-- a line without the blanks at its end
abbrev pub trimmed : List ℕ → List ℕ
trimmed [] = []
trimmed (byte ∷ line) = before_trimmed byte (trimmed line)

-- what is left of a line: cut before its first `//`, and then without the blanks at its end
abbrev pub left_of : List ℕ → List ℕ
left_of line = trimmed (uncommented line)

-- what is left of these lines, but for those that are empty then
abbrev pub kept_of : List (List ℕ) → List (List ℕ)
kept_of lines = filter (λ line. not (is_nothing line)) (map left_of lines)

-- what is left of the lines of a text
abbrev pub left_lines : List ℕ → List (List ℕ)
left_lines text = kept_of (contents_of text)

-- no line feed is among the bytes
abbrev pub has_no_feed : List ℕ → Bool
has_no_feed line = not (list_any (λ byte. byte == 10) line)

-- a line may be left so: it is not empty, has no line feed, and nothing more is cut from it
abbrev pub is_left : List ℕ → Bool
is_left line = not (is_nothing line) && (has_no_feed line && bytes_eq (left_of line) line)
