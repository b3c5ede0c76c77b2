-- Achievements and tests at rest: docs/INTERNALS.md, "Rest".
use Rattle.std.specs.Prelude.{ℕ, Bool, if◌then◌else◌, ◌||◌, List}
use Rattle.std.specs.List.{flat_map}
use Rattle.ra_condition.specs.Contents.{TriggerContents, groups_of}
use Rattle.ra_group.specs.declared.form.Form.TheVariants.{InTrigger}
use Rattle.ra_trigger.specs.States.{is_cleared, is_triggered}
use Rattle.ra_trigger.specs.Steps.{TriggerKept, frames_along, together}
use Rattle.ra_schedule.specs.Groups.{rested_hits, paid}

-- the hits of all groups of a trigger after n frames at rest
abbrev pub rested_groups : ℕ → TriggerContents → List Bool → (lefts hits : List ℕ) → List ℕ
rested_groups n t truths lefts hits = flat_map (rested_hits n InTrigger) (frames_along (groups_of t) truths lefts hits)

-- what is kept of an achievement after n frames at rest: where no frame clears its hits, the free conditions go on to
-- count
abbrev pub rested_achievement : ℕ → TriggerContents → List Bool → List ℕ → TriggerKept → TriggerKept
rested_achievement n t truths lefts old =
    let now = together t truths lefts old.hits in
    if is_triggered old.state || is_cleared old.state now.reset now.valid then old
    else record { state = old.state; measured = old.measured; hits = rested_groups n t truths lefts old.hits }

-- the hits of a trigger without states after n frames at rest
abbrev pub rested_test : ℕ → TriggerContents → List Bool → (lefts hits : List ℕ) → List ℕ
rested_test n t truths lefts hits =
    if (together t truths lefts hits).reset then hits else rested_groups n t truths lefts hits

-- what is kept of a trigger at rest, with the hits of n frames more; the rest began at a frame with the hits before
abbrev pub owed_trigger : ℕ → (before : List ℕ) → TriggerKept → TriggerKept
owed_trigger n before kept = record kept { hits = paid n before kept.hits }
