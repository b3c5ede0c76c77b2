-- How long a save is: docs/DEFINITIONS.md, "Calls from C".
use Rattle.std.specs.Prelude.{◌≡◌, ℕ}
use Rattle.ra_progress.specs.Layout.{length_of}
use Rattle.ra_meaning.specs.Order.{shape_of}
use Rattle.ra_runtime.specs.Courses.{CourseSeen}

-- the count is the length of the progress bytes of the set, which is that of each save
abbrev pub IsSaveLength : (count : ℕ) → CourseSeen → Type 0
IsSaveLength count course = count ≡ length_of (shape_of course.set)
