-- The parts of a text and its script.
use Rattle.std.proofs.Common.{◌≡◌, ◌∙◌, ℕ, List, refl, sym, ap}
use Rattle.ra_richpresence.specs.Contents.{ScriptContents}
use Rattle.ra_richpresence.specs.Cut.{left_lines}
use Rattle.ra_richpresence.specs.Grammar.{ScriptParts, script_lines, script_of, script_parts, script}
use Rattle.ra_richpresence.specs.Reading.{script_at}
use Rattle.ra_richpresence.proofs.ScriptReaders.{reads-script}
use Rattle.ra_text.proofs.Places.{spelled-once}

-- a text spells its parts in one way
pub parts-once : (text : List ℕ) (v w : ScriptParts) → script_parts text v → script_parts text w → v ≡ w
parts-once text v w h k = spelled-once script_lines script_at reads-script (left_lines text) v w h k

-- parts make a script
pub script-of_parts : (text : List ℕ) (parts : ScriptParts) → script_parts text parts → script text (script_of parts)
script-of_parts text parts spelled = record { parts = parts; spelled = spelled; made = refl }

-- the script of a text is that of its parts
pub parts-of_script : (text : List ℕ) (v : ScriptContents) (parts : ScriptParts) → script text v
    → script_parts text parts → v ≡ script_of parts
parts-of_script text v parts h spelled = h.made ∙ ap script_of (parts-once text h.parts parts h.spelled spelled)

pub script-once : (text : List ℕ) (v w : ScriptContents) → script text v → script text w → v ≡ w
script-once text v w h k = parts-of_script text v k.parts h k.spelled ∙ sym k.made
