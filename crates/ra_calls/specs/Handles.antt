-- What a handle holds: docs/DEFINITIONS.md, "Calls from C".
use Rattle.std.specs.Prelude.{Option, None, Some, option_map, List, []}
use Rattle.ra_progress.specs.Contents.{Opening}
use Rattle.ra_runtime.specs.Courses.{CourseSeen}
use Rattle.ra_explain.specs.Recordings.{RecordingSeen}
use Rattle.ra_calls.specs.Games.{GameSeen}
use Rattle.ra_calls.specs.declared.handle.Handle.{Handle}

-- what a handle holds: a course with its recording, or nothing
abbrev pub whole_in : Handle → Option GameSeen
whole_in handle = handle.cell.value

-- the course that a handle holds, or nothing
abbrev pub held_in : Handle → Option CourseSeen
held_in handle = option_map (λ game. game.course) (whole_in handle)

-- the recording of what is held
abbrev pub recording_of : Option GameSeen → Option RecordingSeen
recording_of None = None
recording_of (Some game) = game.recording

-- the recording that a handle holds, or nothing
abbrev pub recorded_in : Handle → Option RecordingSeen
recorded_in handle = recording_of (whole_in handle)

-- the states that are kept in the slots of what is held
abbrev pub slots_of : Option GameSeen → List Opening
slots_of None = []
slots_of (Some game) = game.slots

-- the states that are kept in the slots of what a handle holds
abbrev pub slots_in : Handle → List Opening
slots_in handle = slots_of (whole_in handle)
