-- What the calls on kept states answer: docs/DEFINITIONS.md, "Calls from C" and "States kept in memory".
use Rattle.std.specs.Prelude.{◌≡◌, ◌⊎◌, ℕ, ◌<◌, ◌≤◌, Option, None, Some, List, length, replicate, slice_get, slice_set}
use Rattle.ra_progress.specs.Contents.{Opening}
use Rattle.ra_runtime.specs.Courses.{CourseSeen}
use Rattle.ra_runtime.specs.Keeping.{Takes}
use Rattle.ra_judge.specs.Codes.{done, memory, out_of_range}

-- the most slots of a game
abbrev pub most_slots : ℕ
most_slots = 65536

-- as many slots as are wanted come in the place of those that were there, each with the present state; else these stay
abbrev pub AnswersSlots : (wanted : ℕ) → CourseSeen → (code : ℕ) → (old new : List Opening) → Type 0
AnswersSlots wanted course code old new =
    ((most_slots < wanted) × (code ≡ out_of_range) × (new ≡ old))
    ⊎ ((wanted ≤ most_slots)
    × (((code ≡ done) × (new ≡ replicate wanted course.kept)) ⊎ ((code ≡ memory) × (new ≡ old))))

-- the present state is kept in this slot, and the others stay; where there is no such slot all stay
abbrev pub AnswersKeep : (slot : ℕ) → CourseSeen → (code : ℕ) → (old new : List Opening) → Type 0
AnswersKeep slot course code old new =
    ((slot < length old) × (code ≡ done) × (new ≡ slice_set old slot course.kept))
    ⊎ ((length old ≤ slot) × (code ≡ out_of_range) × (new ≡ old))

-- what was kept in this slot, where there is one, is taken up; else nothing changes
abbrev pub TakesKept : Option Opening → (code : ℕ) → (old new : CourseSeen) → Type 0
TakesKept None code old new = (code ≡ out_of_range) × (new ≡ old)
TakesKept (Some opening) code old new = (code ≡ done) × Takes old new opening

-- the same by the number of the slot
abbrev pub AnswersTake : (slot : ℕ) → List Opening → (code : ℕ) → (old new : CourseSeen) → Type 0
AnswersTake slot slots code old new = TakesKept (slice_get slots slot) code old new
