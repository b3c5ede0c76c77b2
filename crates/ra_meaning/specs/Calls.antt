-- Lists of calls over a runtime that was made: docs/DEFINITIONS.md, "Calls that take no memory".
use Rattle.std.specs.Prelude.{◌≡◌, ℕ, ◌+◌, ◌≤◌, None, List, [], ◌∷◌, length}
use Rattle.std.specs.List.{AllByRecursion}
use Rattle.ra_set.specs.Contents.{SetContents}
use Rattle.ra_progress.specs.Reading.{refusal}
use Rattle.ra_meaning.specs.Order.{shape_of}
use Rattle.ra_meaning.specs.Runtime.{RuntimeSeen, IsMade, IsWritten, TakesFrame, TakesUp}
use Rattle.ra_meaning.specs.Saving.{IsSaved}

-- a call that takes no memory
pub data Call : Type 0 where
  Write : (at : ℕ) → (bytes : List ℕ) → Call
  Frame : Call
  Restore : (bytes : List ℕ) → Call

-- a call that may come: a write that fits, a frame, or a restore of bytes that `save` gave over this set
abbrev pub MayCome : SetContents → (size : ℕ) → Call → Type 0
MayCome set size (Write at bytes) = at + length bytes ≤ size
MayCome set size Frame = Unit {0}
MayCome set size (Restore bytes) = IsSaved set bytes

-- the call has what it requires, and is not refused
abbrev pub Succeeds : RuntimeSeen → Call → Type 0
Succeeds runtime (Write at bytes) = at + length bytes ≤ length runtime.image
Succeeds runtime Frame = Unit {0}
Succeeds runtime (Restore bytes) = refusal (shape_of runtime.set) bytes ≡ None

-- what a call leaves
abbrev pub Leaves : (old : RuntimeSeen) → Call → (new : RuntimeSeen) → Type 0
Leaves old (Write at bytes) new = IsWritten old new at bytes
Leaves old Frame new = TakesFrame old new
Leaves old (Restore bytes) new = TakesUp old new bytes

-- each call of the list succeeds, whatever the calls before it left
abbrev pub AllSucceed : RuntimeSeen → List Call → Type 0
AllSucceed runtime [] = Unit {0}
AllSucceed runtime (call ∷ calls) =
    Succeeds runtime call × ((new : RuntimeSeen) → Leaves runtime call new → AllSucceed new calls)

-- over a runtime that was made, every list of calls that may come succeeds
abbrev pub CallsSucceed : SetContents → Type 0
CallsSucceed set =
    (size : ℕ) (runtime : RuntimeSeen) (calls : List Call) → IsMade set size runtime
    → AllByRecursion (MayCome set size) calls → AllSucceed runtime calls
