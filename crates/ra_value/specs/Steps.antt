-- One frame of a value, in which each part gives a number and the greatest counts: docs/DEFINITIONS.md, "Values over
-- frames".
use Rattle.std.specs.Prelude.{ℕ, ◌+◌, ◌%◌, ◌^◌, Bool, false, ◌&&◌, if◌then◌else◌, nat_lt, unwrap_or, List, [], ◌∷◌}
use Rattle.std.specs.Prelude.{length, map, take, drop, replicate, slice_index, ℤ}
use Rattle.std.specs.List.{list_any, flat_map}
use Rattle.std.specs.Int.{w32, cast_signed}
use Rattle.ra_condition.specs.Contents.{PartContents, Legacy, Grouped, counted_in, value_hits}
use Rattle.ra_group.specs.declared.form.Form.TheVariants.{InValue}
use Rattle.ra_group.specs.Equations.{Frame, frame_of}
use Rattle.ra_group.specs.Outcome.{outcome_of, next_hits}

-- what is kept of a value between frames: hits of the conditions of all parts, and a number per part
pub record ValueKept : Type 0 where
  pub hits : List ℕ
  pub numbers : List ℕ

-- what one part says at a frame: whether it resets, whether it counts from hits, its number and its hits
pub record PartStep : Type 0 where
  pub reset : Bool
  pub from_hits : Bool
  pub number : ℕ
  pub hits : List ℕ

-- a part at a frame: a legacy one gives its sum, another the number that its group measures, or else the old one
abbrev pub part_step : PartContents → Frame → (sum old : ℕ) → PartStep
part_step (Legacy terms) f sum old = record { reset = false; from_hits = false; number = sum; hits = [] }
part_step (Grouped cs) f sum old =
    let o = outcome_of InValue f in
    record { reset = o.reset; from_hits = o.from_hits; number = unwrap_or o.measured old; hits = next_hits f }

-- each part at a frame, from lists that run over the conditions of all parts, with a sum and a kept number for each
abbrev pub part_steps : List PartContents → List Bool → (lefts hits sums numbers : List ℕ) → List PartStep
part_steps [] truths lefts hits sums numbers = []
part_steps (part ∷ parts) truths lefts hits sums numbers =
    let cs = counted_in part in
    part_step part (frame_of cs (take (length cs) truths) (take (length cs) lefts)
    (take (length cs) hits)) (slice_index sums 0) (slice_index numbers 0)
    ∷ part_steps parts (drop (length cs) truths) (drop (length cs) lefts) (drop (length cs) hits)
    (drop 1 sums) (drop 1 numbers)

-- the number of a part after the frame: where some part resets, 0 if it comes from hits
abbrev pub number_after : Bool → PartStep → ℕ
number_after reset part = if reset && part.from_hits then 0 else part.number

-- one frame of a value; a reset of one part clears the hits of all
abbrev pub step : List PartContents → List Bool → (lefts sums : List ℕ) → ValueKept → ValueKept
step parts truths lefts sums old =
    let steps = part_steps parts truths lefts old.hits sums old.numbers in
    let reset = list_any (λ part. part.reset) steps in
    let hits = flat_map (λ part. part.hits) steps in
    record {
      hits = if reset then replicate (length hits) 0 else hits;
      numbers = map (number_after reset) steps;
    }

-- what the plain opening keeps of a value: 0 everywhere
abbrev pub no_value : List PartContents → ValueKept
no_value parts = record { hits = replicate (value_hits parts) 0; numbers = replicate (length parts) 0 }

-- the place of a number in the order of signed 32-bit numbers
abbrev pub signed_place : ℕ → ℕ
signed_place n = (n + 2 ^ 31) % 2 ^ 32

-- the greater of two, compared as signed numbers
abbrev pub signed_max : ℕ → ℕ → ℕ
signed_max m n = if nat_lt (signed_place m) (signed_place n) then n else m

-- the greatest of a number and others, compared as signed numbers
abbrev pub greatest_from : ℕ → List ℕ → ℕ
greatest_from best [] = best
greatest_from best (n ∷ ns) = greatest_from (signed_max best n) ns

-- the greatest of the numbers, compared as signed ones, and 0 of none
abbrev pub greatest : List ℕ → ℕ
greatest [] = 0
greatest (n ∷ ns) = greatest_from n ns

-- the greatest of the numbers, as a signed number
abbrev pub signed_greatest : List ℕ → ℤ
signed_greatest numbers = cast_signed w32 (greatest numbers)
