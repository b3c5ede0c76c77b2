-- Why bytes are no progress file, in words: docs/DEFINITIONS.md, "Statuses".
use Rattle.std.specs.Prelude.{ℕ, ◌+◌, ◌/◌, ◌%◌, if◌then◌else◌, nat_lt, List, [], ◌∷◌, ◌++◌, codes, decimal}
use Rattle.std.specs.List.{flat_map}
use Rattle.ra_progress.specs.declared.refused.ProgressRefused.{ProgressRefused}
use Rattle.ra_progress.specs.declared.refused.ProgressRefused.TheVariants.{WrongLength, WrongMark, WrongVersion}
use Rattle.ra_progress.specs.declared.refused.ProgressRefused.TheVariants.{WrongSum, OtherSet, BadEntry, BadState}

-- the hexadecimal digit of a number below 16, in lower case
abbrev pub hex_digit : ℕ → ℕ
hex_digit n = if nat_lt n 10 then 48 + n else 87 + n

-- the two hexadecimal digits of a byte
abbrev pub hex_byte : ℕ → List ℕ
hex_byte b = hex_digit (b / 16) ∷ hex_digit (b % 16) ∷ []

-- bytes in lower-case hexadecimal, two digits each
abbrev pub hex : List ℕ → List ℕ
hex bytes = flat_map hex_byte bytes

-- why bytes are no progress file, in words
abbrev pub progress_words : ProgressRefused → List ℕ
progress_words (WrongLength wanted found) = codes "length " ++ decimal found ++ codes " wanted " ++ decimal wanted
progress_words (WrongMark found) = codes "mark " ++ hex found ++ codes " wanted 52415047"
progress_words (WrongVersion found) = codes "version " ++ decimal found ++ codes " wanted 1, 2 or 3"
progress_words (WrongSum kept found) = codes "sum " ++ hex kept ++ codes " is " ++ hex found
progress_words (OtherSet wanted found) = codes "set " ++ hex found ++ codes " wanted " ++ hex wanted
progress_words (BadEntry at wanted found) =
    codes "entry " ++ decimal found ++ codes " wanted " ++ decimal wanted ++ codes " at " ++ decimal at
progress_words (BadState at found) = codes "state " ++ decimal found ++ codes " at " ++ decimal at
