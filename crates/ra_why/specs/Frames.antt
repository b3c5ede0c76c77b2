-- What each frame of a history shows of a trigger: docs/DEFINITIONS.md, "Account of an achievement".
use Rattle.std.specs.Prelude.{ℕ, ◌&&◌, List, [], ◌∷◌, map}
use Rattle.std.specs.List.{flat_map}
use Rattle.ra_condition.specs.declared.condition.Condition.{Condition}
use Rattle.ra_condition.specs.Chains.{places}
use Rattle.ra_condition.specs.Contents.{TriggerContents, groups_of}
use Rattle.ra_memory.specs.Image.{History}
use Rattle.ra_chain.specs.Elaboration.{right_of}
use Rattle.ra_memref.specs.Values.{Start, value_of}
use Rattle.ra_trigger.specs.States.{is_waiting}
use Rattle.ra_trigger.specs.Steps.{TriggerKept, Together, together}
use Rattle.ra_member.specs.Frames.{lefts_at, truths_at}
use Rattle.ra_explain.specs.Recorders.{kept_after, plain_start}
use Rattle.ra_account.specs.declared.moment.Moment.{Moment}
use Rattle.ra_account.specs.Groups.{GroupRow}
use Rattle.ra_account.specs.Triggers.{TriggerRow}

-- the right values of all conditions of some groups at the last frame
abbrev pub rights_at : Start → History → List (List Condition) → List ℕ
rights_at start history groups = flat_map (λ cs. map (λ j. value_of start (right_of cs j) history) (places cs)) groups

-- the comparisons, values and hits of all conditions at the last frame of a history, with these hits before it
abbrev pub row_at : TriggerContents → History → (hits : List ℕ) → GroupRow
row_at t history hits = record {
  truths = truths_at plain_start history (groups_of t);
  lefts = lefts_at plain_start history (groups_of t);
  rights = rights_at plain_start history (groups_of t);
  hits = hits;
}

-- what the trigger as a whole is at a frame, by what was kept before it and what its groups say together
abbrev pub moment_by : TriggerKept → Together → Moment
moment_by before now = record {
  reset = now.reset;
  paused = now.paused;
  waited = is_waiting before.state && now.valid;
}

-- what a frame shows of a trigger, by what was kept before it and by its row
abbrev pub shown_by : TriggerContents → TriggerKept → GroupRow → TriggerRow
shown_by t before row = record {
  moment = moment_by before (together t row.truths row.lefts row.hits);
  row = row;
}

-- what each frame of a history shows of a trigger, the newest first
abbrev pub frames_of : TriggerContents → History → List TriggerRow
frames_of t [] = []
frames_of t (image ∷ earlier) =
    shown_by t (kept_after t earlier) (row_at t (image ∷ earlier) (kept_after t earlier).hits) ∷ frames_of t earlier
