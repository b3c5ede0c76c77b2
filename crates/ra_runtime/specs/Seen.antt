-- What a runtime is seen as, by its fields, and what these always have: docs/DEFINITIONS.md, "What a runtime keeps".
use Rattle.std.specs.Prelude.{◌≡◌, ◌≤◌, ◌^◌, ℕ, Option, None, Some, IsSome, List, [], length}
use Rattle.ra_set.specs.Contents.{set_contents}
use Rattle.ra_set.specs.Limits.{IsWithinLimits}
use Rattle.ra_set.specs.Spelled.{OptionalScript}
use Rattle.ra_progress.specs.Room.{IsRoom}
use Rattle.ra_runtime.specs.declared.course.Course.TheInside.{Inside}
use Rattle.ra_runtime.specs.declared.playthrough.Playthrough.TheInside.{Inside as PlayInside}
use Rattle.ra_runtime.specs.declared.runtime.Runtime.TheInside.{Inside as RuntimeInside}
use Rattle.ra_meaning.specs.Order.{shape_of}
use Rattle.ra_meaning.specs.Runtime.{RuntimeSeen}
use Rattle.ra_runtime.specs.Courses.{CourseSeen, over, IsCurrent}
use Rattle.ra_items.specs.AllRuns.{AreItemRuns, HaveDigits, all_events}
use Rattle.ra_runtime.specs.Laid.{IsOver, opening_by}
use Rattle.ra_runtime.specs.Lazy.{IsLazy, IsWhole}
use Rattle.ra_meaning.specs.declared.event.Event.{Event}
use Rattle.ra_meaning.specs.Lines.{event_lines}
use Rattle.ra_display.specs.LineRests.{AreOptionalRests, optional_presence_seen}
use Rattle.ra_display.specs.PresenceRuns.{IsOptionalPresence}
use Rattle.ra_items.specs.Rests.{AreRests, AreTold, seen_by}

-- the events of a frame, where one came, by its number
abbrev pub events_where : Option ℕ → List Event → List Event
events_where None events = []
events_where (Some frame) events = events

-- the lines of these events of a frame, where one came, by its number
abbrev pub lines_where : Option ℕ → List Event → List ℕ
lines_where None events = []
lines_where (Some frame) events = event_lines frame events

-- what a caller sees of the inside of a course
abbrev pub course_seen : Inside → CourseSeen
course_seen t = record {
  set = set_contents t.set;
  size = t.size;
  kept = opening_by t.count t.table (seen_by t.runs.items t.rests) (optional_presence_seen t.presence t.line_rests);
  events = events_where t.last (all_events (set_contents t.set).items t.runs.items);
  lines = lines_where t.last (all_events (set_contents t.set).items t.runs.items);
  marked = t.table.marked;
  places = t.table.places;
}

-- the set is within the limits, its shape is there or can be made, with room for what a file says of it, the table is
-- over its cells and images of its size, and there is a run for each item and for the display, and what rests goes on
-- to rest
pub record IsCourse (t : Inside) : Type 0 where
  pub script : OptionalScript (set_contents t.set).script
  pub limits : IsWithinLimits (set_contents t.set)
  pub lazy : IsLazy (shape_of (set_contents t.set)) t.shape
  pub names : length t.table.nodes ≤ t.shape.room
  pub room : IsRoom (shape_of (set_contents t.set)) t.said
  pub over : IsOver (set_contents t.set) t.table
  pub runs : AreItemRuns t.table.nodes (set_contents t.set).items t.runs.items
  pub rests : AreRests t.table.nodes t.table.values (set_contents t.set).items t.runs.items t.rests
  pub told : IsSome t.last → AreTold (set_contents t.set).items t.runs.items t.rests
  pub presence : IsOptionalPresence t.table.nodes (set_contents t.set).script t.presence
  pub lines : AreOptionalRests t.table.nodes t.table.values (set_contents t.set).script t.presence t.line_rests
  pub digits : HaveDigits (set_contents t.set).items
  pub size : t.table.size ≡ t.size
  pub small : t.size ≤ 2 ^ 27

-- what a caller sees of the inside of a playthrough: its course, over its memory
abbrev pub playthrough_seen : PlayInside → RuntimeSeen
playthrough_seen t = over t.course t.memory

-- the memory is of the size of the course, and current
pub record IsPlaythrough (t : PlayInside) : Type 0 where
  pub size : t.course.size ≡ length t.memory
  pub current : IsCurrent (over t.course t.memory)

-- what a caller sees of the inside of a runtime
abbrev pub runtime_seen : RuntimeInside → RuntimeSeen
runtime_seen t = t.play

-- the shape is that of the set
abbrev pub IsRuntime : RuntimeInside → Type 0
IsRuntime t = IsWhole (shape_of t.play.set) t.shape
