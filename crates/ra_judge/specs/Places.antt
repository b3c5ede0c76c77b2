-- Lines and columns of texts: docs/DEFINITIONS.md, "Calls from C".
use Rattle.std.specs.Prelude.{ℕ, ◌+◌, ◌==◌, if◌then◌else◌, List, [], ◌∷◌, length, min, take}
use Rattle.ra_judge.specs.declared.place.Place.{Place}

-- the first place of a text
abbrev pub first_place : Place
first_place = record { line = 1; column = 1 }

-- the place after a byte: a line feed ends the line
abbrev pub place_behind : ℕ → Place → Place
place_behind byte place =
    if byte == 10 then record { line = place.line + 1; column = 1 }
    else record { line = place.line; column = place.column + 1 }

-- the place after some bytes
abbrev pub place_after : List ℕ → Place → Place
place_after [] place = place
place_after (byte ∷ bytes) place = place_after bytes (place_behind byte place)

-- no text that is refused at a place has more bytes
abbrev pub most_before : ℕ
most_before = 16777216

-- the line and the column of a place of a text
abbrev pub place_in : List ℕ → ℕ → Place
place_in text at = place_after (take (min (min at (length text)) most_before) text) first_place
