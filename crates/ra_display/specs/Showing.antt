-- What a display shows, by what its run keeps: docs/DEFINITIONS.md, "Presence over frames".
use Rattle.std.specs.Prelude.{ℕ, ◌<◌, Option, Some, List, [], ◌∷◌, length, codes, decimal, All}
use Rattle.ra_richpresence.specs.Contents.{ScriptContents}
use Rattle.ra_value_format.specs.Formats.{HasDigits}
use Rattle.ra_display.specs.declared.presence_run.PresenceRun.{PresenceRun}
use Rattle.ra_meaning.specs.LineOf.{line_of}
use Rattle.ra_meaning.specs.Presence.{display_text}
use Rattle.ra_display.specs.PresenceRuns.{display_kept}

-- the line that a display shows, with the count of frames
abbrev pub shown_text : (count : ℕ) → ScriptContents → PresenceRun → List ℕ
shown_text count script run =
    line_of (codes "presence" ∷ decimal count ∷ display_text script (display_kept run) ∷ [])

-- the line that a set shows; nothing where it has no script
abbrev pub optional_text : (count : ℕ) → Option ScriptContents → Option PresenceRun → List ℕ
optional_text count (Some script) (Some run) = shown_text count script run
optional_text count _ _ = []

-- a display shows a line of its script, and can write each value
abbrev pub MayShow : Option ScriptContents → Option PresenceRun → Type 0
MayShow (Some script) (Some run) = (run.shown < length script.lines) × All (λ format. HasDigits format.1) script.formats
MayShow _ _ = Unit {0}
