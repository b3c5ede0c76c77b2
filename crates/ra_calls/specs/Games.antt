-- What a handle's game and recording are seen as: docs/DEFINITIONS.md, "Calls from C".
use Rattle.std.specs.Prelude.{◌≡◌, ℕ, Option, None, List, []}
use Rattle.ra_progress.specs.Contents.{Opening}
use Rattle.ra_runtime.specs.Courses.{CourseSeen}
use Rattle.ra_explain.specs.Recordings.{RecordingSeen}
use Rattle.ra_calls.specs.Answers.{IsLoaded}

-- what a caller sees: the course, the recording where an achievement is recorded, and the states that are kept in slots
pub record GameSeen : Type 0 where
  pub course : CourseSeen
  pub recording : Option RecordingSeen
  pub slots : List Opening

-- a game that was just made of a text over memories of this size: nothing is recorded, and it has no slots
pub record IsNew (text : List ℕ) (size : ℕ) (game : GameSeen) : Type 0 where
  pub loaded : IsLoaded text size game.course
  pub unrecorded : game.recording ≡ None
  pub slotless : game.slots ≡ []
