-- What is looked at of a list of achievements: docs/DEFINITIONS.md, "What is left of a document".
use Rattle.std.specs.Prelude.{ℕ, ◌==◌, not, Bool, true, false, Option, None, Some, option_and_then, List, filter}
use Rattle.std.specs.Prelude.{count_by, codes}
use Rattle.serde_json.specs.Data.{Data}
use Rattle.serde_json.specs.Find.{get, as_number, as_u64}
use Rattle.ra_patch.specs.declared.scope.Scope.{Scope}
use Rattle.ra_patch.specs.declared.scope.Scope.TheVariants.{All, Official}

-- the flags are those of an unofficial achievement
abbrev pub are_unofficial : Option ℕ → Bool
are_unofficial None = false
are_unofficial (Some flags) = flags == 5

-- the number in the field "Flags" of an item, where there is one
abbrev pub flags_in : Data → Option ℕ
flags_in d = option_and_then as_u64 (option_and_then as_number (get (codes "Flags") d))

-- the field "Flags" of an achievement is the number 5
abbrev pub is_unofficial : Data → Bool
is_unofficial d = are_unofficial (flags_in d)

-- an achievement is looked at
abbrev pub is_wanted : Scope → Data → Bool
is_wanted All d = true
is_wanted Official d = not (is_unofficial d)

-- the achievements that are looked at: all of them, or those that are not unofficial
abbrev pub wanted : Scope → List Data → List Data
wanted All ds = ds
wanted Official ds = filter (is_wanted Official) ds

-- how many achievements are unofficial
abbrev pub unofficial_among : List Data → ℕ
unofficial_among ds = count_by is_unofficial ds
