-- Counts of legacy parts: the step between the code and docs/DEFINITIONS.md, "Normal text".
use Rattle.std.specs.Prelude.{ℕ, ◌+◌, List, Option, None, Some, sum_by}
use Rattle.ra_condition.specs.Contents.{PartContents, Legacy, Grouped}
use Rattle.ra_set.specs.Contents.{ItemContents, Unlocks, Ranks}

-- 1 for a legacy part, 0 for another
abbrev pub legacy_in_part : PartContents → ℕ
legacy_in_part (Legacy terms) = 1
legacy_in_part (Grouped cs) = 0

-- how many legacy parts a value has
abbrev pub legacy_in_value : List PartContents → ℕ
legacy_in_value parts = sum_by legacy_in_part parts

-- how many legacy parts a value has that may be missing
abbrev pub legacy_in_optional : Option (List PartContents) → ℕ
legacy_in_optional None = 0
legacy_in_optional (Some parts) = legacy_in_value parts

-- how many legacy parts the values of an item have
abbrev pub legacy_in_item : ItemContents → ℕ
legacy_in_item (Unlocks id t) = 0
legacy_in_item (Ranks id format b) = legacy_in_value b.value + legacy_in_optional b.progress
