-- What `lint` prints of a set: docs/DEFINITIONS.md, "The lines of `lint`".
use Rattle.std.specs.Prelude.{ℕ, Bool, true, false, if◌then◌else◌, List, [], ◌++◌, length, codes, decimal, slice_get}
use Rattle.std.specs.Prelude.{None, Some}
use Rattle.std.specs.List.{flat_map}
use Rattle.ra_set.specs.Contents.{SetContents, ItemContents, Unlocks, Ranks}
use Rattle.ra_lint.specs.declared.warning.Place.{Place}
use Rattle.ra_lint.specs.declared.warning.Place.TheVariants.{Trigger, Start, Cancel, Submit}
use Rattle.ra_lint.specs.declared.warning.Word.{Word}
use Rattle.ra_lint.specs.declared.warning.Word.TheVariants.{Never, Always, Unreachable, NoUnlock, NoStart}
use Rattle.ra_lint.specs.declared.warning.Warning.{Warning}
use Rattle.ra_lint.specs.Warnings.{warnings_of}

-- the word of a warning
abbrev pub warning_word : Word → List ℕ
warning_word Never = codes "never"
warning_word Always = codes "always"
warning_word Unreachable = codes "unreachable"
warning_word NoUnlock = codes "no-unlock"
warning_word NoStart = codes "no-start"

-- the word is one on an item, and not on a condition of it
abbrev pub is_on_item : Word → Bool
is_on_item NoUnlock = true
is_on_item NoStart = true
is_on_item _ = false

-- the field of a board that a warning is on; an achievement has none
abbrev pub place_text : Place → List ℕ
place_text Trigger = []
place_text Start = codes "STA "
place_text Cancel = codes "CAN "
place_text Submit = codes "SUB "

-- where the condition of a warning stands; a warning on the item itself names none
abbrev pub where_text : Warning → List ℕ
where_text w =
    if is_on_item w.word then []
    else place_text w.place ++ decimal w.group ++ codes "." ++ decimal w.condition ++ codes " "

-- the letter and the id of an item
abbrev pub item_text : ItemContents → List ℕ
item_text (Unlocks id t) = codes "A " ++ decimal id
item_text (Ranks id format b) = codes "L " ++ decimal id

-- the line of a warning on an item
abbrev pub item_line : ItemContents → Warning → List ℕ
item_line item w = codes "warn " ++ item_text item ++ codes " " ++ where_text w ++ warning_word w.word ++ codes "\n"

-- the line of a warning on the item that it names
abbrev pub warning_line : List ItemContents → Warning → List ℕ
warning_line items w = elim (slice_get items w.item) [ None ↦ [] | Some item ↦ item_line item w ]

-- the text of `lint`: a line for each warning, and how many there are
abbrev pub lint_text : SetContents → List ℕ
lint_text set =
    flat_map (warning_line set.items) (warnings_of set) ++ codes "warnings "
    ++ decimal (length (warnings_of set)) ++ codes "\n"
