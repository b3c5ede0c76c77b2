-- How many numbers lines keep, by their conditions.
use Rattle.std.proofs.Common.{◌≡◌, ℕ, suc, ◌+◌, ◌<◌, ◌≤◌, false, true, Option, None, Some, List, [], ◌∷◌, length, map}
use Rattle.std.proofs.Common.{sum_by, All, arith}
use Rattle.std.specs.List.{filter_map}
use Rattle.std.proofs.lemmas.List.Sums.{sum_by-cons, sum_by-append, sum_by-le-sum_by, sum-map}
use Rattle.ra_condition.specs.Contents.{TriggerContents, trigger_hits, PartContents, Legacy, Grouped, counted_in}
use Rattle.ra_condition.specs.Contents.{value_hits}
use Rattle.ra_condition.specs.Spelled.{IsPart, IsValue}
use Rattle.ra_richpresence.specs.Contents.{PieceContents, Bytes, Shows, LineContents, value_in, values_in_line}
use Rattle.ra_richpresence.specs.Spelled.{IsPiece}
use Rattle.ra_set.specs.Limits.{part_conditions, value_conditions, optional_trigger, line_conditions}
use Rattle.ra_member.specs.Members.{member_hits, member_numbers}
use Rattle.ra_meaning.specs.LineMembers.{tests_in, line_member}
use Rattle.ra_meaning.specs.ShownLines.{IsShownLine}

-- a value keeps at most a hit and a number for each of its conditions
part_hits : (part : PartContents) → length (counted_in part) ≤ part_conditions part
part_hits (Legacy terms) = omega arith
part_hits (Grouped cs) = omega arith

pub hits_within : (parts : List PartContents) → value_hits parts ≤ value_conditions parts
hits_within parts = sum_by-le-sum_by (λ part. length (counted_in part)) part_conditions parts part_hits

some_condition : (part : PartContents) → IsPart part → 0 < part_conditions part
some_condition (Legacy terms) is = is.0
some_condition (Grouped []) is = let bad : false ≡ true = is.measured in cc
some_condition (Grouped (c ∷ cs)) is = omega arith

pub parts_within : (parts : List PartContents) → All IsPart parts → length parts ≤ value_conditions parts
parts_within [] each = omega arith
parts_within (part ∷ parts) each =
    let one : 0 < part_conditions part = some_condition part (each 0 part (omega arith)) in
    let rest : length parts ≤ value_conditions parts =
    parts_within parts (λ k d within. each (suc k) d (omega arith)) in
    let all : value_conditions (part ∷ parts) ≡ part_conditions part + value_conditions parts =
    sum_by-cons part_conditions part parts in
    omega arith

-- a line keeps at most a hit and a number for each of its conditions
test_within : (test : Option TriggerContents) → sum_by trigger_hits (tests_in test) ≤ optional_trigger test
test_within None = omega arith
test_within (Some t) = omega arith

line_within : (line : LineContents) → member_hits (line_member line) ≤ line_conditions line
line_within line =
    let hits = sum_by-append (λ (n : ℕ). n) (map trigger_hits (tests_in line.test))
    (map value_hits (values_in_line line)) in
    omega (
      arith,
      hits,
      sum-map trigger_hits (tests_in line.test),
      sum-map value_hits (values_in_line line),
      test_within line.test,
      sum_by-le-sum_by value_hits value_conditions (values_in_line line) hits_within,
    )

macros_within : (pieces : List PieceContents) → All IsPiece pieces → sum_by length
    (filter_map value_in pieces) ≤ sum_by value_conditions (filter_map value_in pieces)
macros_within [] each = omega arith
macros_within (Bytes text ∷ pieces) each = macros_within pieces (λ k d within. each (suc k) d (omega arith))
macros_within (Shows name parts ∷ pieces) each =
    let one : IsValue parts = each 0 (Shows name parts) (omega arith) in
    omega (
      arith,
      parts_within parts one.each,
      macros_within pieces (λ k d within. each (suc k) d (omega arith)),
      sum_by-cons length parts (filter_map value_in pieces),
      sum_by-cons value_conditions parts (filter_map value_in pieces),
    )

pub line_few : (line : LineContents) → IsShownLine line → (member_hits (line_member line)
    ≤ line_conditions line) × (member_numbers (line_member line) ≤ line_conditions line)
line_few line is =
    (line_within line, omega (arith, macros_within line.pieces is.pieces, sum-map length (values_in_line line)))
