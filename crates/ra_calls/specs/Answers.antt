-- What the calls answer and what they leave of a game: docs/DEFINITIONS.md, "Calls from C".
use Rattle.std.specs.Prelude.{◌≡◌, ◌≢◌, ◌⊎◌, ℕ, Option, None, Some, List, length, map}
use Rattle.ra_banks.specs.Banks.{bytes_of}
use Rattle.ra_banks.specs.declared.bank.Bank.{Bank}
use Rattle.ra_set.specs.Accepted.{IsSet}
use Rattle.ra_set.specs.Contents.{SetContents}
use Rattle.ra_set.specs.Refusals.{Refuses}
use Rattle.ra_set.specs.declared.refused.SetRefused.{SetRefused}
use Rattle.ra_progress.specs.Layout.{length_of}
use Rattle.ra_progress.specs.Reading.{refusal}
use Rattle.ra_progress.specs.Spelling.{progress_bytes}
use Rattle.ra_progress.specs.declared.refused.ProgressRefused.{ProgressRefused}
use Rattle.ra_meaning.specs.Openings.{plain_opening}
use Rattle.ra_meaning.specs.Order.{shape_of}
use Rattle.ra_meaning.specs.Runtime.{TakesUp}
use Rattle.ra_runtime.specs.Courses.{CourseSeen, over, EarnsToo, IsBegun, TakesImage}
use Rattle.ra_goals.specs.Goals.{goal_of}
use Rattle.ra_goals.specs.Named.{is_named}
use Rattle.ra_judge.specs.Codes.{done, memory, no_progress, out_of_range, empty}
use Rattle.ra_judge.specs.Giving.{Gives}
use Rattle.ra_judge.specs.Reasons.{progress_reason, set_reason}
use Rattle.ra_calls.specs.ToldEvents.{told_event}
use Rattle.ra_calls.specs.declared.told_event.ToldEvent.{ToldEvent}
use Rattle.ra_judge.specs.declared.refusal.Refusal.{Refusal}

-- the text spells a set, and this is its course before the first frame, over memories of this size
pub record IsLoaded (text : List ℕ) (size : ℕ) (course : CourseSeen) : Type 0 where
  pub spelled : IsSet text course.set
  pub begun : IsBegun course.set size course

-- the reason is why the text is no set
pub record IsRefusedText (text : List ℕ) (why : Refusal) : Type 0 where
  pub reason : SetRefused
  pub refused : Refuses text reason
  pub told : why ≡ set_reason text reason

-- an empty handle stays empty and is told; over a full one, which stays full, the call does this
abbrev pub Calls : (CourseSeen → CourseSeen → Type 0) → (code : ℕ) → (old new : Option CourseSeen) → Type 0
Calls does code None None = code ≡ empty
Calls does code (Some old) (Some new) = does old new
Calls does code _ _ = ⊥

-- banks that have as many bytes as the game are a frame of it, and others are out of range and change nothing
abbrev pub AnswersFrame : (banks : List Bank) → (code : ℕ) → (old new : CourseSeen) → Type 0
AnswersFrame banks code old new =
    ((code ≡ done) × (length (bytes_of banks) ≡ old.size) × TakesImage old new (bytes_of banks))
    ⊎ ((code ≡ out_of_range) × (length (bytes_of banks) ≢ old.size) × (new ≡ old))

-- the bytes are no progress of the set, and nothing changes
pub record RefusesProgress (bytes : List ℕ) (reason : ProgressRefused) (old new : CourseSeen) : Type 0 where
  pub refused : refusal (shape_of old.set) bytes ≡ Some reason
  pub stays : new ≡ old

-- what the bytes say is taken up over every memory, and the size stays
pub record TakesBytes (bytes : List ℕ) (old new : CourseSeen) : Type 0 where
  pub size : new.size ≡ old.size
  pub taken : (image : List ℕ) → TakesUp (over old image) (over new image) bytes

-- the bytes are progress of the set, and are taken up
pub record TakesProgress (bytes : List ℕ) (old new : CourseSeen) : Type 0 where
  pub accepted : refusal (shape_of old.set) bytes ≡ None
  pub taken : TakesBytes bytes old new

-- progress bytes are taken up, or refused for their reason
abbrev pub AnswersRestore : (bytes : List ℕ) → (why : Refusal) → (code : ℕ) → (old new : CourseSeen) → Type 0
AnswersRestore bytes why code old new =
    ((code ≡ done) × TakesProgress bytes old new)
    ⊎ ((code ≡ no_progress) × ((reason : ProgressRefused) × (why ≡ progress_reason reason)
    × RefusesProgress bytes reason old new))

-- the bytes are the progress of a set before its first frame
pub record IsFirst (set : SetContents) (bytes : List ℕ) : Type 0 where
  pub is : bytes ≡ progress_bytes (shape_of set) (plain_opening set)

-- the progress before the first frame is taken up
pub record BeginsAgain (old new : CourseSeen) : Type 0 where
  pub first : List ℕ
  pub of_set : IsFirst old.set first
  pub taken : TakesBytes first old new

-- a reset begins again
abbrev pub AnswersReset : (code : ℕ) → (old new : CourseSeen) → Type 0
AnswersReset code old new = (code ≡ done) × BeginsAgain old new

-- a text of this kind is given, where there is memory for it, and the game stays
abbrev pub AnswersTold : {A : Type 0} → (CourseSeen → List A → Type 0) → (before after : List A)
    → (count code : ℕ) → (old new : CourseSeen) → Type 0
AnswersTold {A} is_told before after count code old new =
    (new ≡ old) × ((code ≡ memory) ⊎ ((told : List A) × is_told old told × Gives told before after count code))

-- the events of the last frame
abbrev pub AreEventsOf : CourseSeen → List ToldEvent → Type 0
AreEventsOf course told = told ≡ map told_event course.events

-- the lines of the last frame
abbrev pub AreLinesOf : CourseSeen → List ℕ → Type 0
AreLinesOf course text = text ≡ course.lines

-- the progress bytes of the present state
unfoldable pub IsSaveOf : CourseSeen → List ℕ → Type 0
IsSaveOf course bytes = bytes ≡ progress_bytes (shape_of course.set) course.kept

-- the length of the progress bytes of the set is told, and the game stays
abbrev pub AnswersSize : (size code : ℕ) → (old new : CourseSeen) → Type 0
AnswersSize size code old new = (code ≡ done) × (size ≡ length_of (shape_of old.set)) × (new ≡ old)

-- the achievements of these ids are earned too, and nothing else changes; an id of no achievement does nothing
abbrev pub EarnsIds : (ids : List ℕ) → (old new : CourseSeen) → Type 0
EarnsIds ids old new = EarnsToo old new (map (is_named ids) (map goal_of old.set.items))

-- these ids are earned, or there is no memory and nothing changes
abbrev pub AnswersEarn : (ids : List ℕ) → (code : ℕ) → (old new : CourseSeen) → Type 0
AnswersEarn ids code old new = ((code ≡ done) × EarnsIds ids old new) ⊎ ((code ≡ memory) × (new ≡ old))
