-- The warnings on a condition, by its verdict and its chance: the code's step to docs/DEFINITIONS.md, "Warnings".
use Rattle.std.specs.Prelude.{ℕ, List, [], ◌++◌, if◌then◌else◌}
use Rattle.ra_condition.specs.declared.condition.Condition.{Condition}
use Rattle.ra_condition.specs.Flags.{hands_on}
use Rattle.ra_lint.specs.declared.chance.Chance.{Chance}
use Rattle.ra_lint.specs.declared.rows.Spot.{Spot}
use Rattle.ra_lint.specs.declared.verdict.Verdict.{Verdict}
use Rattle.ra_lint.specs.declared.warning.Place.{Place}
use Rattle.ra_lint.specs.declared.warning.Warning.{Warning}
use Rattle.ra_lint.specs.declared.warning.Word.{Word}
use Rattle.ra_lint.specs.declared.warning.Word.TheVariants.{Never, Always, Unreachable}
use Rattle.ra_lint.specs.Chances.{never_reached}
use Rattle.ra_lint.specs.Warnings.{warning, where_so}

-- a group of the trigger at a place of an item
abbrev pub spot_of : ℕ → Place → ℕ → Spot
spot_of item place group = record { item = item; place = place; group = group }

-- a warning on a condition of a group
abbrev pub warning_at : Spot → ℕ → Word → Warning
warning_at spot j word = warning spot.item spot.place spot.group j word

-- the warnings on a condition, by the verdict on its comparison and by what it may come to
abbrev pub warnings_by : Spot → ℕ → Condition → Verdict → Chance → List Warning
warnings_by spot j c verdict here =
    if hands_on c.flag then [] else
    where_so verdict.never (warning_at spot j Never) ++ where_so verdict.always (warning_at spot j Always)
    ++ where_so (never_reached c.target here) (warning_at spot j Unreachable)
