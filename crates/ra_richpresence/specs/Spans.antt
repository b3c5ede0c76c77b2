-- The spans of lookups, in which a number is looked up by a search: docs/DEFINITIONS.md, "Presence over frames".
use Rattle.std.specs.Prelude.{◌≡◌, ℕ, suc, ◌^◌, ◌<◌, nat_le, min, if◌then◌else◌, Option, None, Some, List, [], ◌∷◌}
use Rattle.std.specs.Prelude.{length, Vec}
use Rattle.std.specs.Global.{Global}
use Rattle.std.specs.List.{slice_index_or}
use Rattle.std.specs.List.Sorted.{IsNonDecreasingBy}
use Rattle.ra_richpresence.specs.declared.lookup.Keys.{Keys}
use Rattle.ra_richpresence.specs.declared.lookup.Lookup.{Lookup}
use Rattle.ra_richpresence.specs.declared.span.Span.{Span}
use Rattle.ra_richpresence.specs.Lines.{holds}

-- the line of the last span that begins at a number or below it, else the line before all spans
abbrev pub line_at : (before : Option ℕ) → List Span → ℕ → Option ℕ
line_at before [] n = before
line_at before (s ∷ ss) n = line_at (if nat_le s.from n then s.line else before) ss n

-- the index of the first keys line that holds a number, where `at` lines stand before these
abbrev pub line_of : (at : ℕ) → List Keys → ℕ → Option ℕ
line_of at [] n = None
line_of at (k ∷ ks) n = if holds k.ranges.items n then Some at else line_of (suc at) ks n

-- the spans begin in order, and give each number of 32 bits this line
pub record AreSpans (line : ℕ → Option ℕ) (spans : List Span) : Type 0 where
  pub rise : IsNonDecreasingBy (λ s. s.from) spans
  pub found : (n : ℕ) → n < 2 ^ 32 → line_at None spans n ≡ line n

-- each lookup has its spans
pub record AreLaidOut (lookups : List Lookup) (spans : List (Vec Span Global)) : Type 0 where
  pub count : length spans ≡ length lookups
  pub each : (i : ℕ) (l : Lookup) (s : Vec Span Global) → i < length lookups
      → AreSpans (line_of 0 (slice_index_or lookups i l).keys.items) (slice_index_or spans i s).items

-- the line of the next span where it begins at a number or below it, else the line before
abbrev pub line_passed : (from : ℕ) → (before : Option ℕ) → List Span → Option ℕ
line_passed from before [] = before
line_passed from before (s ∷ ss) = if nat_le s.from from then s.line else before

-- the spans after the next one where it begins at a number or below it, else all of them
abbrev pub left_behind : (from : ℕ) → List Span → List Span
left_behind from [] = []
left_behind from (s ∷ ss) = if nat_le s.from from then ss else s ∷ ss

-- where the next of the spans of two rows begins
abbrev pub least_from : List Span → List Span → Option ℕ
least_from [] [] = None
least_from (o ∷ os) [] = Some o.from
least_from [] (u ∷ us) = Some u.from
least_from (o ∷ os) (u ∷ us) = Some (min o.from u.from)
