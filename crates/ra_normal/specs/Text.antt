-- The normal text of a set: docs/DEFINITIONS.md, "Normal text".
use Rattle.std.specs.Prelude.{◌≡◌, ℕ, ◌+◌, ◌<◌, ◌≤◌, ◌==◌, ◌||◌, bytes_eq, take, Bool, true, false, if◌then◌else◌}
use Rattle.std.specs.Prelude.{Option, None, Some, List, [], ◌∷◌, ◌++◌, length, sum_by, codes, decimal}
use Rattle.std.specs.List.{flat_map}
use Rattle.ra_condition.specs.Canonical.{trigger_text, value_text}
use Rattle.ra_condition.specs.Contents.{PartContents}
use Rattle.ra_leaderboard.specs.Contents.{BoardContents}
use Rattle.ra_value_format.specs.declared.format.Format.{Format}
use Rattle.ra_value_format.specs.declared.format.Format.TheVariants.{Value, Score, Frames, Secs, Hundredths, Minutes}
use Rattle.ra_value_format.specs.declared.format.Format.TheVariants.{SecsAsMins, Unsigned, Tens, Hundreds, Thousands}
use Rattle.ra_value_format.specs.declared.format.Format.TheVariants.{Fixed, Float}
use Rattle.ra_set.specs.declared.refused.Which.TheVariants.{Bytes, Conditions}
use Rattle.ra_set.specs.Contents.{ItemContents, Unlocks, Ranks, SetContents}
use Rattle.ra_set.specs.Limits.{most_bytes, most_conditions, item_conditions, script_conditions}
use Rattle.ra_normal.specs.declared.refused.NormalRefused.{NormalRefused}
use Rattle.ra_normal.specs.declared.refused.NormalRefused.TheVariants.{Limit, Memory}
use Rattle.ra_normal.specs.Contents.{normal_value, normal_item}

-- the first name of each format
abbrev pub name_of : Format → List ℕ
name_of Value = codes "VALUE"
name_of Score = codes "SCORE"
name_of Frames = codes "FRAMES"
name_of Secs = codes "SECS"
name_of Hundredths = codes "MILLISECS"
name_of Minutes = codes "MINUTES"
name_of SecsAsMins = codes "SECS_AS_MINS"
name_of Unsigned = codes "UNSIGNED"
name_of Tens = codes "TENS"
name_of Hundreds = codes "HUNDREDS"
name_of Thousands = codes "THOUSANDS"
name_of (Fixed n) = codes "FIXED" ++ decimal n
name_of (Float n) = codes "FLOAT" ++ decimal n

-- the field of the progress, where there is one
abbrev pub progress_text : Option (List PartContents) → List ℕ
progress_text None = []
progress_text (Some parts) = codes "::PRO:" ++ value_text (normal_value parts)

-- the tests of a board, in the order STA, CAN, SUB
abbrev pub tests_text : BoardContents → List ℕ
tests_text b =
    codes "STA:" ++ (trigger_text b.start
    ++ (codes "::CAN:" ++ (trigger_text b.cancel ++ (codes "::SUB:" ++ trigger_text b.submit))))

-- the values of a board, VAL before PRO
abbrev pub values_text : BoardContents → List ℕ
values_text b = codes "::VAL:" ++ (value_text (normal_value b.value) ++ progress_text b.progress)

-- a board, its tests before its values
abbrev pub board_text : BoardContents → List ℕ
board_text b = tests_text b ++ values_text b

-- the line of an item
abbrev pub item_text : ItemContents → List ℕ
item_text (Unlocks id t) = codes "A " ++ (decimal id ++ (codes " " ++ (trigger_text t ++ codes "\n")))
item_text (Ranks id format b) =
    codes "L " ++ (decimal id ++ (codes " " ++ (name_of format ++ (codes " " ++ (board_text b ++ codes "\n")))))

-- the bytes begin with a line "P"
abbrev pub begins_script : List ℕ → Bool
begins_script text =
    bytes_eq (take 2 text) (codes "P\n") || (bytes_eq (take 3 text) (codes "P\r\n") || bytes_eq text (codes "P"))

-- the bytes of a file from its line "P" on, where a line starts here or not
abbrev pub script_from : Bool → List ℕ → List ℕ
script_from starts [] = []
script_from true (c ∷ cs) = if begins_script (c ∷ cs) then c ∷ cs else script_from (c == 10) cs
script_from false (c ∷ cs) = script_from (c == 10) cs

-- the items of a set, line by line, and what the file has from its line "P" on
abbrev pub normal_text : (file : List ℕ) → SetContents → List ℕ
normal_text file set = flat_map item_text set.items ++ script_from true file

-- how many conditions the normal text has
abbrev pub normal_conditions : SetContents → ℕ
normal_conditions set = sum_by (λ x. item_conditions (normal_item x)) set.items + script_conditions set.script

-- the normal text, where it keeps the limits
pub record IsNormal (file : List ℕ) (set : SetContents) (text : List ℕ) : Type 0 where
  pub is : text ≡ normal_text file set
  pub bytes : length text ≤ most_bytes
  pub conditions : normal_conditions set ≤ most_conditions

-- the first limit that the normal text passes
abbrev pub IsPastLimit : (file : List ℕ) → SetContents → NormalRefused → Type 0
IsPastLimit file set (Limit Bytes found) =
    (most_bytes < length (normal_text file set)) × (found ≡ length (normal_text file set))
IsPastLimit file set (Limit Conditions found) =
    (length (normal_text file set) ≤ most_bytes) × (most_conditions < normal_conditions set)
    × (found ≡ normal_conditions set)
IsPastLimit file set (Limit _ found) = ⊥
IsPastLimit file set Memory = Unit {0}
