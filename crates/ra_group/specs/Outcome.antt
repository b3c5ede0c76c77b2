-- What a group says at a frame, and the hits after it: docs/DEFINITIONS.md, "Group outcome".
use Rattle.std.specs.Prelude.{ℕ, max, min, Bool, true, false, if◌then◌else◌, not, ◌&&◌, ◌||◌, ◌==◌, Option, None, Some}
use Rattle.std.specs.Prelude.{List, [], ◌∷◌, slice_index, map}
use Rattle.std.specs.List.{list_any, list_all}
use Rattle.ra_operand.specs.Operators.{is_bare}
use Rattle.ra_condition.specs.declared.flag.Flag.{Flag}
use Rattle.ra_condition.specs.declared.condition.Condition.{Condition}
use Rattle.ra_condition.specs.Flags.{hands_on, is_pause, is_reset, is_measured, is_measured_if, is_wanted, is_required}
use Rattle.ra_condition.specs.Contents.{condition_at}
use Rattle.ra_condition.specs.Chains.{in_pause_chain, places}
use Rattle.ra_group.specs.Equations.{Frame, settled_at}
use Rattle.ra_group.specs.declared.form.Form.{Form}
use Rattle.ra_group.specs.declared.form.Form.TheVariants.{InTrigger, InValue}
use Rattle.ra_group.specs.declared.outcome.Outcome.{Outcome}

-- of the conditions at the places some one of the class is valid
abbrev pub some_valid : (Flag → Bool) → Frame → List ℕ → Bool
some_valid class f js = list_any (λ j. class (condition_at f.conditions j).flag && (settled_at f j).valid) js

-- of the conditions at the places all of the class are valid
abbrev pub all_valid : (Flag → Bool) → Frame → List ℕ → Bool
all_valid class f js = list_all (λ j. not (class (condition_at f.conditions j).flag) || (settled_at f j).valid) js

-- whether a measured condition takes its number from its total
abbrev pub from_total : Form → Condition → Bool
from_total InTrigger c = not (c.target == 0)
from_total InValue c = not (is_bare c.op)

-- the number of a measured condition, by its total and its left value
abbrev pub number_of : Form → Condition → ℕ → ℕ → ℕ
number_of form c total left =
    if from_total form c then (if c.target == 0 then total else min total c.target) else left

-- the larger of two numbers, of those that are there
abbrev pub larger : Option ℕ → Option ℕ → Option ℕ
larger None b = b
larger (Some a) None = Some a
larger (Some a) (Some b) = Some (max a b)

-- the number that the condition at j offers, if it is measured
abbrev pub offer : Form → Frame → ℕ → Option ℕ
offer form f j =
    if is_measured (condition_at f.conditions j).flag then Some (number_of form
    (condition_at f.conditions j) (settled_at f j).total (slice_index f.lefts j)) else None

-- the greatest of the numbers that the conditions at the places offer, if one does
abbrev pub greatest : Form → Frame → List ℕ → Option ℕ
greatest form f [] = None
greatest form f (j ∷ js) = larger (offer form f j) (greatest form f js)

-- the number where the test holds, and else 0 in its place
abbrev pub option_if : Bool → Option ℕ → Option ℕ
option_if true o = o
option_if false None = None
option_if false (Some n) = Some 0

-- what the group says at the frame
abbrev pub outcome_of : Form → Frame → Outcome
outcome_of form f =
    let js = places f.conditions in
    let paused = some_valid is_pause f js in
    let reset = not paused && some_valid is_reset f js in
    record {
      paused = paused;
      reset = reset;
      valid = not paused && not reset && all_valid is_required f js;
      primed = not paused && not reset && all_valid is_wanted f js;
      measured = if paused then None else option_if (all_valid is_measured_if f js) (greatest form f js);
      from_hits = list_any (λ j. is_measured (condition_at f.conditions j).flag
          && from_total form (condition_at f.conditions j)) js;
    }

-- the hits of the condition at j after the frame
abbrev pub next_hit : Frame → ℕ → ℕ
next_hit f j =
    if not (hands_on (condition_at f.conditions j).flag)
    && (not (some_valid is_pause f (places f.conditions)) || in_pause_chain f.conditions j)
    then (settled_at f j).hit else slice_index f.hits j

-- the hits of all conditions after the frame
abbrev pub next_hits : Frame → List ℕ
next_hits f = map (next_hit f) (places f.conditions)
