-- Groups whose trees are their operands: docs/DEFINITIONS.md, "Trees of a group".
use Rattle.std.specs.Prelude.{◌≡◌, ℕ, ◌<◌, false, List, length}
use Rattle.ra_condition.specs.declared.condition.Condition.{Condition}
use Rattle.ra_condition.specs.Contents.{flag_at}
use Rattle.ra_condition.specs.Flags.{hands_on}

-- no condition of a group hands a value on
abbrev pub HandNothingOn : List Condition → Type 0
HandNothingOn cs = (j : ℕ) → j < length cs → hands_on (flag_at cs j) ≡ false
