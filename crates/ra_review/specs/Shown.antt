-- The lines of a review: docs/DEFINITIONS.md, "Review of a set".
use Rattle.std.specs.Prelude.{ℕ, suc, ◌-◌, ◌&&◌, nat_le, Bool, true, false, if◌then◌else◌, List, [], ◌++◌, length, take}
use Rattle.std.specs.Prelude.{drop, map, replicate, codes, decimal}
use Rattle.ra_lint.specs.declared.warning.Place.{Place}
use Rattle.ra_lint.specs.declared.warning.Place.TheVariants.{Trigger, Start, Cancel, Submit}
use Rattle.ra_set.specs.Contents.{ItemContents, Unlocks, Ranks}
use Rattle.ra_notices.specs.declared.notice.Notice.{Notice}
use Rattle.ra_notices.specs.declared.notice.Word.{Word}
use Rattle.ra_notices.specs.declared.notice.Word.TheVariants.{OpenChain, Twice, MemoryRight, ResetsAlways, PausesAlways}
use Rattle.ra_notices.specs.declared.notice.Word.TheVariants.{NoMeasured, Empty, NoNeed, NoUnlock}

-- ---- the bytes of a line

-- a byte as it is shown: one outside the printable ones is a point
abbrev pub shown_byte : ℕ → ℕ
shown_byte byte = if nat_le 32 byte && nat_le byte 126 then byte else 46

-- bytes as they are shown, at most 120
abbrev pub shown : List ℕ → List ℕ
shown text = map shown_byte (take 120 text)

-- the bytes of a line that are shown for a place in it: from 60 before it on
abbrev pub shown_at : (place : ℕ) → List ℕ → List ℕ
shown_at place line = shown (drop (place - 60) line)

-- a blank below each byte that is shown before the place
abbrev pub blanks_at : (place : ℕ) → List ℕ → List ℕ
blanks_at place line = replicate (length (take (place - (place - 60)) (shown_at place line))) 32

-- the line of this number is refused at a place of it, its first byte being column 1; the line and the place stand
-- below
abbrev pub refusal : (number place : ℕ) → List ℕ → List ℕ
refusal number place line =
    codes "line " ++ decimal number ++ codes " column " ++ decimal (suc place) ++ codes " refused\n"
    ++ shown_at place line ++ codes "\n" ++ blanks_at place line ++ codes "^\n"

-- the line of this number has the letter and the id of an earlier one
abbrev pub again : (number id first : ℕ) → List ℕ
again number id first =
    codes "line " ++ decimal number ++ codes " id " ++ decimal id ++ codes " again, first on line "
    ++ decimal first ++ codes "\n"

-- ---- notices

-- the letter and the id of an item
abbrev pub item_text : ItemContents → List ℕ
item_text (Unlocks id t) = codes "A " ++ decimal id
item_text (Ranks id format b) = codes "L " ++ decimal id

-- the word is one on the trigger of an achievement, and not on a condition
abbrev pub is_whole : Word → Bool
is_whole NoMeasured = true
is_whole Empty = true
is_whole NoNeed = true
is_whole NoUnlock = true
is_whole _ = false

-- the field of a board that a notice is on; an achievement has none
abbrev pub place_text : Place → List ℕ
place_text Trigger = []
place_text Start = codes "STA "
place_text Cancel = codes "CAN "
place_text Submit = codes "SUB "

-- where the condition of a notice stands; a notice on a trigger names none
abbrev pub where_text : Notice → List ℕ
where_text n =
    if is_whole n.word then []
    else place_text n.place ++ decimal n.group ++ codes "." ++ decimal n.condition ++ codes " "

-- the word of a notice
abbrev pub word_text : Word → List ℕ
word_text OpenChain = codes "open-chain"
word_text Twice = codes "twice"
word_text MemoryRight = codes "memory-right"
word_text ResetsAlways = codes "resets-always"
word_text PausesAlways = codes "pauses-always"
word_text NoMeasured = codes "no-measured"
word_text Empty = codes "empty"
word_text NoNeed = codes "no-need"
word_text NoUnlock = codes "no-unlock"

-- the line of a notice on an item
abbrev pub notice_line : ItemContents → Notice → List ℕ
notice_line item n = codes "notice " ++ item_text item ++ codes " " ++ where_text n ++ word_text n.word ++ codes "\n"

-- the line of a notice on the format of a leaderboard
abbrev pub format_line : (id : ℕ) → List ℕ → List ℕ
format_line id name = codes "notice L " ++ decimal id ++ codes " " ++ shown name ++ codes " format\n"

-- the line of a notice on a macro of the display, in the line of this number
abbrev pub macro_line : (number : ℕ) → List ℕ → List ℕ
macro_line number name = codes "notice P line " ++ decimal number ++ codes " macro " ++ shown name ++ codes "\n"

-- the last line
abbrev pub last_line : (lines refused notices : ℕ) → List ℕ
last_line lines refused notices =
    codes "reviewed lines " ++ decimal lines ++ codes " refused " ++ decimal refused
    ++ codes " notices " ++ decimal notices ++ codes "\n"
