-- What is left of the lines of a text is together no longer than the text.
use Rattle.std.proofs.Common.{◌≤◌, ◌&&◌, ℕ, Bool, true, false, not, if◌then◌else◌, List, [], ◌∷◌, length, map, ap}
use Rattle.std.proofs.Common.{arith, length-append}
use Rattle.std.specs.List.{flat_map}
use Rattle.ra_richpresence.specs.Cut.{lines_of, is_end, content_of, begins_comment, uncommented, is_blank, is_nothing}
use Rattle.ra_richpresence.specs.Cut.{trimmed, left_of, kept_of, left_lines}
use Rattle.ra_richpresence.proofs.Fronts.{lines-whole}

-- how many bytes lines have together
abbrev pub bytes_in : List (List ℕ) → ℕ
bytes_in lines = length (flat_map (λ line. line) lines)

-- nothing or a byte before less is no longer
shorter-if : (nothing : Bool) (c : ℕ) (rest line : List ℕ) → length rest ≤ length line
    → length (if nothing then [] else c ∷ rest) ≤ length (c ∷ line)
shorter-if true c rest line le = omega arith
shorter-if false c rest line le = omega arith

content-shorter : (line : List ℕ) → length (content_of line) ≤ length line
content-shorter [] = omega arith
content-shorter (c ∷ line) = shorter-if (is_end (c ∷ line)) c (content_of line) line (content-shorter line)

uncommented-shorter : (line : List ℕ) → length (uncommented line) ≤ length line
uncommented-shorter [] = omega arith
uncommented-shorter (c ∷ line) =
    shorter-if (begins_comment (c ∷ line)) c (uncommented line) line (uncommented-shorter line)

trimmed-shorter : (line : List ℕ) → length (trimmed line) ≤ length line
trimmed-shorter [] = omega arith
trimmed-shorter (c ∷ line) = shorter-if (is_blank c && is_nothing (trimmed line)) c
    (trimmed line) line (trimmed-shorter line)

left-shorter : (line : List ℕ) → length (left_of (content_of line)) ≤ length line
left-shorter line =
    let a = trimmed-shorter (uncommented (content_of line)) in
    let b = uncommented-shorter (content_of line) in
    let c = content-shorter line in
    omega (arith, a, b, c)

kept-shorter : (lines : List (List ℕ)) → bytes_in (kept_of (map content_of lines)) ≤ bytes_in lines
kept-shorter [] = omega arith
kept-shorter (line ∷ lines) =
    cases (is_nothing (left_of (content_of line))) (left-shorter line) (kept-shorter lines) where
      cases : (nothing : Bool) → length (left_of (content_of line)) ≤ length line
          → bytes_in (kept_of (map content_of lines)) ≤ bytes_in lines
          → bytes_in (if not nothing then left_of (content_of line) ∷ kept_of (map content_of lines)
          else kept_of (map content_of lines)) ≤ bytes_in (line ∷ lines)
      cases true here others = omega (arith, others, length-append line (flat_map (λ line. line) lines))
      cases false here others =
          omega (
            arith,
            here,
            others,
            length-append line (flat_map (λ line. line) lines),
            length-append (left_of (content_of line)) (flat_map (λ line. line) (kept_of (map content_of lines))),
          )

-- the lines that are left are together no longer than the text
pub left_lines-shorter : (text : List ℕ) → bytes_in (left_lines text) ≤ length text
left_lines-shorter text = omega (arith, kept-shorter (lines_of text), ap length (lines-whole text))
