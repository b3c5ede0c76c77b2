-- How many events a frame has at most: docs/DEFINITIONS.md, "Calls from C".
use Rattle.std.specs.Prelude.{ℕ, ◌≤◌, List, sum_by}
use Rattle.ra_set.specs.Contents.{ItemContents, Unlocks, Ranks}
use Rattle.ra_runtime.specs.Courses.{CourseSeen}

-- the most events of an item at one frame: three of an achievement, two of a leaderboard
abbrev pub most_of : ItemContents → ℕ
most_of (Unlocks id t) = 3
most_of (Ranks id format b) = 2

-- the most events of these items at one frame
abbrev pub most_events : List ItemContents → ℕ
most_events items = sum_by most_of items

-- the count is at most that of the most events of the game's items at one frame
abbrev pub IsWithinMost : (count : ℕ) → CourseSeen → Type 0
IsWithinMost count course = count ≤ most_events course.set.items
