-- The fields of a board: docs/DEFINITIONS.md, "Boards".
use Rattle.std.specs.Prelude.{List, Option, Some, None}
use Rattle.ra_condition.specs.Contents.{TriggerContents, PartContents, trigger_contents, value_contents}
use Rattle.ra_leaderboard.specs.declared.field.Field.{Field}
use Rattle.ra_leaderboard.specs.declared.field.Field.TheVariants.{Start, Cancel, Submit, Value, Progress}

-- a field by its tag: STA, CAN and SUB hold a trigger, VAL and PRO a value
pub data FieldContents : Type 0 where
  OfStart : TriggerContents → FieldContents
  OfCancel : TriggerContents → FieldContents
  OfSubmit : TriggerContents → FieldContents
  OfValue : List PartContents → FieldContents
  OfProgress : List PartContents → FieldContents

-- the contents of a field
abbrev pub field_contents : Field → FieldContents
field_contents (Start t) = OfStart (trigger_contents t)
field_contents (Cancel t) = OfCancel (trigger_contents t)
field_contents (Submit t) = OfSubmit (trigger_contents t)
field_contents (Value v) = OfValue (value_contents v)
field_contents (Progress v) = OfProgress (value_contents v)

-- the trigger that a field STA holds
abbrev pub start_in : FieldContents → Option TriggerContents
start_in (OfStart t) = Some t
start_in _ = None

-- the trigger that a field CAN holds
abbrev pub cancel_in : FieldContents → Option TriggerContents
cancel_in (OfCancel t) = Some t
cancel_in _ = None

-- the trigger that a field SUB holds
abbrev pub submit_in : FieldContents → Option TriggerContents
submit_in (OfSubmit t) = Some t
submit_in _ = None

-- the value that a field VAL holds
abbrev pub value_in : FieldContents → Option (List PartContents)
value_in (OfValue v) = Some v
value_in _ = None

-- the value that a field PRO holds
abbrev pub progress_in : FieldContents → Option (List PartContents)
progress_in (OfProgress v) = Some v
progress_in _ = None
