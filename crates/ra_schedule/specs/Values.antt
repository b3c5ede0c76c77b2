-- Values at rest: docs/INTERNALS.md, "Rest".
use Rattle.std.specs.Prelude.{ℕ, Bool, if◌then◌else◌, List, map}
use Rattle.std.specs.List.{flat_map, list_any}
use Rattle.ra_condition.specs.declared.condition.Condition.{Condition}
use Rattle.ra_condition.specs.declared.part.Part.{Part}
use Rattle.ra_condition.specs.Contents.{PartContents, part_contents, counted_in}
use Rattle.ra_group.specs.declared.form.Form.TheVariants.{InValue}
use Rattle.ra_trigger.specs.Steps.{frames_along}
use Rattle.ra_value.specs.Steps.{ValueKept, part_steps}
use Rattle.ra_schedule.specs.Groups.{rested_hits, paid}

-- the conditions of a part that keep hits, where it lies in memory
abbrev pub counted_by_part : Part → List Condition
counted_by_part part = counted_in (part_contents part)

-- the hits of all parts of a value after n frames at rest
abbrev pub rested_parts : ℕ → List PartContents → List Bool → (lefts hits : List ℕ) → List ℕ
rested_parts n parts truths lefts hits =
    flat_map (rested_hits n InValue) (frames_along (map counted_in parts) truths lefts hits)

-- what is kept of a value after n frames at rest: where no part resets, the free conditions go on to count
abbrev pub rested_value : ℕ → List PartContents → List Bool → (lefts sums : List ℕ) → ValueKept → ValueKept
rested_value n parts truths lefts sums old =
    if list_any (λ part. part.reset) (part_steps parts truths lefts old.hits sums old.numbers) then old
    else record { hits = rested_parts n parts truths lefts old.hits; numbers = old.numbers }

-- what is kept of a value at rest, with the hits of n frames more; the rest began at a frame with the hits before
abbrev pub owed_value : ℕ → (before : List ℕ) → ValueKept → ValueKept
owed_value n before kept = record kept { hits = paid n before kept.hits }
