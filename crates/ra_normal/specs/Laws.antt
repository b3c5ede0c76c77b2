-- What a legacy part and its condition part give at a frame: docs/DEFINITIONS.md, "Normal text".
use Rattle.std.specs.Prelude.{◌≡◌, ℕ, false, List, map}
use Rattle.ra_condition.specs.declared.condition.Condition.{Condition}
use Rattle.ra_condition.specs.declared.part.Term.{Term}
use Rattle.ra_condition.specs.Chains.{places}
use Rattle.ra_condition.specs.Contents.{Legacy, Grouped}
use Rattle.ra_group.specs.Equations.{Frame, frame_of}
use Rattle.ra_memory.specs.Image.{History}
use Rattle.ra_memref.specs.Values.{Start}
use Rattle.ra_member.specs.Frames.{left_at, truth_at, sum_at}
use Rattle.ra_value.specs.Steps.{PartStep, part_step}
use Rattle.ra_normal.specs.Contents.{legacy_conditions}

-- a group of conditions at the last frame of a history, with its hits before it
abbrev pub group_at : Start → History → List Condition → List ℕ → Frame
group_at start history cs hits =
    frame_of cs (map (truth_at start history cs) (places cs)) (map (left_at start history cs) (places cs)) hits

-- the condition part of legacy terms at the last frame of a history, with its hits and its number before it
abbrev pub condition_step : Start → History → List Term → List ℕ → ℕ → PartStep
condition_step start history terms hits old =
    part_step (Grouped (legacy_conditions terms)) (group_at start history (legacy_conditions terms) hits) 0 old

-- at the last frame the condition part has the number of the legacy part; it resets nothing, and its number is not of
-- hits
pub record IsAlike (start : Start) (history : History) (terms : List Term) (step : PartStep) : Type 0 where
  pub number : step.number ≡ sum_at start history (Legacy terms)
  pub reset : step.reset ≡ false
  pub from_hits : step.from_hits ≡ false
