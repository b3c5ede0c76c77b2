-- The presence text of a game: docs/DEFINITIONS.md, "Calls from C" and "Presence over frames".
use Rattle.std.specs.Prelude.{◌≡◌, ℕ, ◌-◌, nat_lt, if◌then◌else◌, Option, Some, List, [], ◌∷◌, ◌++◌, length, codes}
use Rattle.std.specs.Prelude.{decimal, slice_range}
use Rattle.ra_memory.specs.Image.{History, AreImages}
use Rattle.ra_memref.specs.Values.{Start}
use Rattle.ra_richpresence.specs.Contents.{ScriptContents}
use Rattle.ra_progress.specs.Contents.{KeptPresence, Opening, IsOpening}
use Rattle.ra_meaning.specs.Order.{shape_of}
use Rattle.ra_meaning.specs.Openings.{start_of}
use Rattle.ra_meaning.specs.Presence.{presence_text}
use Rattle.ra_meaning.specs.Runtime.{StandsAfter}
use Rattle.ra_runtime.specs.Courses.{CourseSeen, over}

-- the text that is shown after a history; nothing without a script
abbrev pub text_after : Start → History → Option ScriptContents → Option KeptPresence → List ℕ
text_after start history (Some script) (Some opened) = presence_text start script opened history
text_after start history _ _ = []

-- the text that is shown after every opening and history after which the game stands
abbrev pub IsShownBy : CourseSeen → List ℕ → Type 0
IsShownBy course text =
    (o : Opening) (history : History) → IsOpening (shape_of course.set) o → AreImages history
    → StandsAfter (over course []) o history
    → text ≡ text_after (start_of course.set o) history course.set.script o.presence

-- what stands before the text of a presence line
abbrev pub head_of : (count : ℕ) → List ℕ
head_of count = (codes "presence " ++ decimal count) ++ 32 ∷ []

-- the text of a presence line, which comes after this many bytes and before a line feed; nothing of an empty line
abbrev pub text_in : (head : ℕ) → (line : List ℕ) → List ℕ
text_in head line = if nat_lt head (length line) then slice_range line head (length line - 1) else []
