-- What a frame wants of all conditions of a trigger: docs/DEFINITIONS.md, "Account of an achievement".
use Rattle.std.specs.Prelude.{ℕ, ◌+◌, ◌==◌, min, Bool, false, if◌then◌else◌, List, [], ◌∷◌, ◌++◌, length, map}
use Rattle.std.specs.Prelude.{replicate}
use Rattle.std.specs.List.{flat_map, range_with_len}
use Rattle.ra_condition.specs.declared.condition.Condition.{Condition}
use Rattle.ra_condition.specs.Contents.{TriggerContents}
use Rattle.ra_account.specs.Counting.{count_of}
use Rattle.ra_account.specs.Groups.{GroupRow, group_at, part_of, start_at, wants_of}

-- how many conditions are wanted of the alt of which the fewest are; more than there may be where there is no alt
abbrev pub fewest_of : List (List Bool) → ℕ
fewest_of [] = 18446744073709551615
fewest_of (wants ∷ alts) = min (count_of wants) (fewest_of alts)

-- nothing is wanted of an alt
abbrev pub none_of : List Bool → List Bool
none_of wants = replicate (length wants) false

-- what is wanted of the first alt of which this many conditions are, and nothing of the others
abbrev pub of_first : (fewest : ℕ) → List (List Bool) → List Bool
of_first fewest [] = []
of_first fewest (wants ∷ alts) =
    if count_of wants == fewest then wants ++ flat_map none_of alts else none_of wants ++ of_first fewest alts

-- what is wanted of the first alt of which the fewest are, and nothing of the others
abbrev pub of_alts : List (List Bool) → List Bool
of_alts alts = of_first (fewest_of alts) alts

-- what a frame wants of each alt, whose conditions start at a place of the row
abbrev pub alt_wants : List (List Condition) → (from : ℕ) → GroupRow → List (List Bool)
alt_wants alts from row =
    map (λ g. wants_of (group_at alts g) (part_of (group_at alts g) (from + start_at alts g) row))
    (range_with_len 0 (length alts))

-- what a frame wants: conditions of the core, and of the alt of which it wants the fewest, the first of such alts
abbrev pub trigger_wants : TriggerContents → GroupRow → List Bool
trigger_wants t row = wants_of t.core (part_of t.core 0 row) ++ of_alts (alt_wants t.alts (length t.core) row)
