-- What a recording is seen as, by its fields.
use Rattle.std.specs.Prelude.{◌≡◌, ◌≤◌}
use Rattle.ra_condition.specs.Contents.{trigger_hits}
use Rattle.ra_explain.specs.Recordings.{RecordingSeen}
use Rattle.ra_calls.specs.declared.recording.Recorded.TheInside.{Inside}

-- what a caller sees: the recording
abbrev pub recording_seen : Inside → RecordingSeen
recording_seen t = t.recording

-- the flag tells whether the last frame was an unlock, and the trigger is no larger than that of a set
pub record IsRecorded (t : Inside) : Type 0 where
  pub unlocked : t.unlocked ≡ t.recording.unlocked
  pub few : trigger_hits t.recording.trigger ≤ 65536
