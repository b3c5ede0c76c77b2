-- Where what a game keeps stands: docs/DEFINITIONS.md, "Calls from C".
use Rattle.std.specs.Prelude.{◌≡◌, length}
use Rattle.ra_memory.specs.Image.{AreImages, History}
use Rattle.ra_set.specs.Contents.{SetContents}
use Rattle.ra_progress.specs.Contents.{IsOpening, Opening}
use Rattle.ra_meaning.specs.Earned.{earned_in, with_earned}
use Rattle.ra_meaning.specs.Openings.{snapshot}
use Rattle.ra_meaning.specs.Order.{shape_of}
use Rattle.ra_runtime.specs.Courses.{CourseSeen}
use Rattle.ra_runtime.specs.Keeping.{IsKeptFor, KeptSeen}
use Rattle.ra_calls.specs.Most.{IsWithinMost}

-- what is kept is what stands after some opening of the set and some history, but for what is earned
pub record HasStood (set : SetContents) (kept : Opening) : Type 0 where
  pub opening : Opening
  pub history : History
  pub opens : IsOpening (shape_of set) opening
  pub images : AreImages history
  pub stands : kept ≡ with_earned (snapshot set opening history) (earned_in kept)

-- what a course keeps has stood, and its last frame had few events
pub record IsStanding (course : CourseSeen) : Type 0 where
  pub stood : HasStood course.set course.kept
  pub few : IsWithinMost (length course.events) course

-- a state in a slot is for the set, and has stood
pub record IsSlotOf (set : SetContents) (kept : KeptSeen) : Type 0 where
  pub of_set : IsKeptFor (shape_of set) kept
  pub stood : HasStood set kept.opening
