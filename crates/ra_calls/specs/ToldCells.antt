-- The cells of a set that no pointer moves, as C reads them: docs/DEFINITIONS.md, "Calls from C".
use Rattle.std.specs.Prelude.{◌≡◌, ℕ, ◌+◌, nat_lt, if◌then◌else◌, List, map}
use Rattle.ra_set.specs.Contents.{SetContents}
use Rattle.ra_meaning.specs.Order.{set_cells}
use Rattle.ra_runtime.specs.Cells.{direct_of}
use Rattle.ra_runtime.specs.Courses.{CourseSeen}
use Rattle.ra_runtime.specs.declared.cells.DirectCell.{DirectCell}
use Rattle.ra_calls.specs.declared.told_cell.ToldCell.{ToldCell}

-- a cell over memories of this size: it lies whole in them where its end does not lie behind theirs
abbrev pub told_cell : (size : ℕ) → DirectCell → ToldCell
told_cell size c = record
    { address = c.place; width = c.width; whole = if nat_lt size (c.place + c.width) then 0 else 1 }

-- the direct cells of a set over memories of this size
abbrev pub told_cells : (size : ℕ) → SetContents → List ToldCell
told_cells size set = map (told_cell size) (direct_of (set_cells set))

-- the direct cells of a course's set over its memories
abbrev pub AreCellsOf : CourseSeen → List ToldCell → Type 0
AreCellsOf course told = told ≡ told_cells course.size course.set
