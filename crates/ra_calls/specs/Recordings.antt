-- What calls do to a recording: docs/DEFINITIONS.md, "Calls from C" and "Recorders".
use Rattle.std.specs.Prelude.{◌≡◌, ◌≢◌, ◌⊎◌, ℕ, Bool, true, false, Option, None, Some, List}
use Rattle.ra_set.specs.Contents.{Unlocks}
use Rattle.ra_runtime.specs.Courses.{CourseSeen}
use Rattle.ra_explain.specs.declared.refused.ExplainRefused.{ExplainRefused}
use Rattle.ra_explain.specs.Explains.{ExplanationContents}
use Rattle.ra_explain.specs.Recorders.{TakesFrame, RefusesFrame}
use Rattle.ra_explain.specs.Recordings.{RecordingSeen, over, IsBegun as IsNew}
use Rattle.ra_explain.specs.Unlocks.{ExplainsBehind}
use Rattle.ra_goals.specs.Choosing.{trigger_of}
use Rattle.ra_judge.specs.Giving.{Gives}
use Rattle.ra_judge.specs.Codes.{done, memory, out_of_range, nothing}
use Rattle.ra_calls.specs.ToldUnlocks.{all_hits, told_unlock}
use Rattle.ra_calls.specs.declared.told_unlock.ToldHits.{ToldHits}
use Rattle.ra_calls.specs.declared.told_unlock.ToldUnlock.{ToldUnlock}

-- the frame of this memory is recorded, and the size stays
pub record RecordsImage (image : List ℕ) (old new : RecordingSeen) : Type 0 where
  pub size : new.size ≡ old.size
  pub taken : TakesFrame (over old image) (over new image) new.unlocked

-- the recording takes the frame of this memory too; one that refuses it is gone
abbrev pub RecordsFrame : (image : List ℕ) → (old new : Option RecordingSeen) → Type 0
RecordsFrame image None None = Unit {0}
RecordsFrame image (Some old) (Some new) = RecordsImage image old new
RecordsFrame image (Some old) None = (why : ExplainRefused) × RefusesFrame (over old image) why
RecordsFrame image None (Some new) = ⊥

-- a frame that is taken is recorded; else what is recorded stays
pub record RecordsCall (image : List ℕ) (code : ℕ) (old new : Option RecordingSeen) : Type 0 where
  pub taken : code ≡ done → RecordsFrame image old new
  pub kept : code ≢ done → new ≡ old

-- the frame was taken, or it is refused
abbrev pub FramesOrRefuses : Bool → (image : List ℕ) → (old new : RecordingSeen) → Type 0
FramesOrRefuses true image old new = RecordsImage image old new
FramesOrRefuses false image old new = (why : ExplainRefused) × RefusesFrame (over old image) why

-- before the first frame: a new recording of the achievement of this id, over memories of the game's size
pub record IsStarted (id : ℕ) (course : CourseSeen) (r : RecordingSeen) : Type 0 where
  pub unplayed : course.kept.frames ≡ 0
  pub found : trigger_of id course.set.items ≡ Some r.trigger
  pub begun : IsNew r.trigger course.size r

-- a new recording of the achievement of this id, or there is none
abbrev pub IsOfId : (id : ℕ) → CourseSeen → Option RecordingSeen → Type 0
IsOfId id course None = trigger_of id course.set.items ≡ None
IsOfId id course (Some r) = (trigger_of id course.set.items ≡ Some r.trigger) × IsNew r.trigger course.size r

-- why there is nothing to record: frames were taken, or no achievement has the id
abbrev pub IsUnrecorded : (id : ℕ) → CourseSeen → Type 0
IsUnrecorded id course = (course.kept.frames ≢ 0) ⊎ (trigger_of id course.set.items ≡ None)

-- the recording of the achievement comes in place of what was there; else what was there stays
abbrev pub AnswersRecord : (id : ℕ) → CourseSeen → (code : ℕ) → (old new : Option RecordingSeen) → Type 0
AnswersRecord id course code old new =
    ((code ≡ done) × ((r : RecordingSeen) × (new ≡ Some r) × IsStarted id course r))
    ⊎ (((code ≡ memory) ⊎ ((code ≡ out_of_range) × IsUnrecorded id course)) × (new ≡ old))

-- an explanation of each history for which the recording stands is given, its rows where the events have room
pub record TellsUnlock (r : RecordingSeen) (before after : List ToldHits) (count : ℕ)
    (unlock : ToldUnlock) (code : ℕ) : Type 0 where
  pub told : ExplanationContents
  pub explains : (image : List ℕ) → ExplainsBehind (over r image) told
  pub given : Gives (all_hits 0 told.events) before after count code
  pub headed : code ≡ done → unlock ≡ told_unlock told

-- where the last frame was an unlock it is explained, if there is memory; else there is nothing to explain
abbrev pub ExplainsWhere : Bool → RecordingSeen → (before after : List ToldHits) → (count : ℕ)
    → (unlock : ToldUnlock) → (code : ℕ) → Type 0
ExplainsWhere false r before after count unlock code = code ≡ nothing
ExplainsWhere true r before after count unlock code = (code ≡ memory) ⊎ TellsUnlock r before after count unlock code

-- an unlock of the recorded achievement at the last frame is explained
abbrev pub AnswersExplain : Option RecordingSeen → (before after : List ToldHits) → (count : ℕ)
    → (unlock : ToldUnlock) → (code : ℕ) → Type 0
AnswersExplain None before after count unlock code = code ≡ nothing
AnswersExplain (Some r) before after count unlock code = ExplainsWhere r.unlocked r before after count unlock code
