-- What conditions may ever come to: docs/DEFINITIONS.md, "Chances".
use Rattle.std.specs.Prelude.{ℕ, zero, suc, ◌==◌, ◌&&◌, ◌||◌, not, Bool, false, if◌then◌else◌, Option, None, Some, List}
use Rattle.std.specs.List.{list_any}
use Rattle.ra_condition.specs.declared.flag.Flag.{Flag}
use Rattle.ra_condition.specs.declared.flag.Flag.TheVariants.{AddHits, AndNext, OrNext}
use Rattle.ra_condition.specs.declared.condition.Condition.{Condition}
use Rattle.ra_condition.specs.Flags.{combines, hands_on, is_required}
use Rattle.ra_condition.specs.Contents.{condition_at, flag_at}
use Rattle.ra_condition.specs.Chains.{places}
use Rattle.ra_lint.specs.declared.chance.Chance.{Chance}

-- whether the condition may be met, by the flag and the validity of the one before
abbrev pub may_meet_after : Flag → (valid may : Bool) → Bool
may_meet_after AndNext valid may = may && valid
may_meet_after OrNext valid may = may || valid
may_meet_after _ valid may = may

-- the same by what stands before the condition
abbrev pub may_meet : Option Chance → Bool → Bool
may_meet None may = may
may_meet (Some prev) may = may_meet_after prev.flag prev.valid may

-- whether hits may be added, by the flag before
abbrev pub may_add_after : Flag → (added met : Bool) → Bool
may_add_after AddHits added met = added || met
may_add_after _ added met = added

-- the same by what stands before the condition
abbrev pub may_add : Option Chance → Bool
may_add None = false
may_add (Some prev) = may_add_after prev.flag prev.added prev.met

-- whether the target may be reached
abbrev pub may_reach : ℕ → (met added : Bool) → Bool
may_reach target met added = not (target == 0) && (met || added)

-- the condition has a target that it never reaches
abbrev pub never_reached : ℕ → Chance → Bool
never_reached target here = not (target == 0) && not (may_reach target here.met here.added)

-- whether the condition may be valid
abbrev pub may_be_valid : Flag → ℕ → (met added : Bool) → Bool
may_be_valid flag target met added = if combines flag || target == 0 then met else may_reach target met added

-- what a condition may come to, from whether its comparison may hold and what stands before it in its chain
abbrev pub chance : Condition → Bool → Option Chance → Chance
chance c may prev =
    let met = may_meet prev may in
    let added = may_add prev in
    record { flag = c.flag; met = met; added = added; valid = may_be_valid c.flag c.target met added }

-- what the condition after this one sees before it, as in the equations of a frame
abbrev pub next_chance : Condition → Chance → Option Chance → Option Chance
next_chance c here prev = if hands_on c.flag then prev else (if combines c.flag then Some here else None)

-- In what follows `may` tells of each place whether the comparison there may hold.

-- what stands before the condition at j in its chain
abbrev pub chance_before : List Condition → (ℕ → Bool) → ℕ → Option Chance
chance_before cs may zero = None
chance_before cs may (suc i) =
    let before = chance_before cs may i in
    next_chance (condition_at cs i) (chance (condition_at cs i) (may i) before) before

-- what the condition at j may come to
abbrev pub chance_at : List Condition → (ℕ → Bool) → ℕ → Chance
chance_at cs may j = chance (condition_at cs j) (may j) (chance_before cs may j)

-- a condition that a valid group needs is never valid
abbrev pub is_dead : List Condition → (ℕ → Bool) → Bool
is_dead cs may = list_any (λ j. is_required (flag_at cs j) && not (chance_at cs may j).valid) (places cs)
