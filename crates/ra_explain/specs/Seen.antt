-- What a recording and a recorder are seen as, by their fields, and what these always have: docs/DEFINITIONS.md,
-- "Recorders" and "A frame that looks".
use Rattle.std.specs.Prelude.{◌≡◌, ◌+◌, ◌-◌, ◌*◌, ◌<◌, ◌≤◌, true, option_map, length, map}
use Rattle.std.specs.List.{AllByRecursion}
use Rattle.ra_condition.specs.Contents.{trigger_contents, trigger_hits}
use Rattle.ra_member.specs.Runs.{IsTriggerRun}
use Rattle.ra_explain.specs.declared.recording.Recording.TheInside.{Inside}
use Rattle.ra_explain.specs.declared.recorder.Recorder.TheInside.{Inside as RecorderInside}
use Rattle.ra_explain.specs.Beginnings.{StandsAtUnlock}
use Rattle.ra_explain.specs.Making.{IsOver}
use Rattle.ra_explain.specs.Recorders.{RecorderSeen, most_rows}
use Rattle.ra_explain.specs.Recordings.{RecordingSeen, over, IsCurrent}
use Rattle.ra_explain.specs.RowLists.{rows_from}
use Rattle.ra_explain.specs.Slots.{counts_of, kept_by, slot_kept, StandsSomewhere, FitsOptional}

-- what a caller sees of the inside of a recording
abbrev pub recording_seen : Inside → RecordingSeen
recording_seen t = record {
  trigger = trigger_contents t.text;
  size = t.table.size;
  frames = length t.rows.behind - 1;
  kept = kept_by t.table t.run.trigger (rows_from t.rows.behind t.latest);
  slots = map (option_map (slot_kept (counts_of (trigger_contents t.text)) t.rows.behind)) t.slots.items;
  unlocked = t.unlocked;
  marked = t.table.marked;
  places = t.table.places;
}

-- the table is over the trigger, the plan is the trigger's, and what is kept stands for some history, for one
-- that ends with an unlock where the last frame was one
pub record IsRecording (t : Inside) : Type 0 where
  pub few : trigger_hits (trigger_contents t.text) ≤ 65536
  pub over : IsOver (trigger_contents t.text) t.table
  pub run_too : IsTriggerRun t.table.nodes (trigger_contents t.text) t.run
  pub width : t.rows.width ≡ trigger_hits (trigger_contents t.text)
  pub rows_few : (length t.rows.behind - 1) * (trigger_hits (trigger_contents t.text) + 1) ≤ most_rows
  pub latest : t.latest < length t.rows.behind
  pub somewhere : StandsSomewhere (trigger_contents t.text)
      (kept_by t.table t.run.trigger (rows_from t.rows.behind t.latest))
  pub sixteen : length t.slots.items ≡ 16
  pub slots_fit : AllByRecursion (FitsOptional (trigger_contents t.text) t.rows.behind) t.slots.items
  pub unlock : t.unlocked ≡ true → StandsAtUnlock (trigger_contents t.text)
      (kept_by t.table t.run.trigger (rows_from t.rows.behind t.latest))

-- what a caller sees of the inside of a recorder: its recording, over its memory
abbrev pub recorder_seen : RecorderInside → RecorderSeen
recorder_seen t = over t.recording t.memory

-- the memory is of the size of the recording, and current
pub record IsRecorder (t : RecorderInside) : Type 0 where
  pub size : t.recording.size ≡ length t.memory
  pub current : IsCurrent t.recording t.memory
