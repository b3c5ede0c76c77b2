-- Groups without chains: docs/DEFINITIONS.md, "Equations of a condition".
use Rattle.std.specs.Prelude.{◌≡◌, ℕ, ◌<◌, Bool, false, None, not, ◌&&◌, ◌||◌, List, length}
use Rattle.ra_condition.specs.declared.condition.Condition.{Condition}
use Rattle.ra_condition.specs.Contents.{flag_at}
use Rattle.ra_condition.specs.Flags.{combines, hands_on, is_address, is_pause, is_reset}
use Rattle.ra_group.specs.declared.standing.Standing.{Standing}
use Rattle.ra_group.specs.Equations.{met, settled}

-- none leaves anything for the next one in its chain
abbrev pub StandAlone : List Condition → Type 0
StandAlone cs = (j : ℕ) → j < length cs → (combines (flag_at cs j) && not (hands_on (flag_at cs j))) ≡ false

-- none pauses or resets its group or moves the cells of the next one
abbrev pub AreCalm : List Condition → Type 0
AreCalm cs = (j : ℕ) → j < length cs
    → (is_pause (flag_at cs j) || (is_reset (flag_at cs j) || is_address (flag_at cs j))) ≡ false

-- how a condition with none before it in its chain stands
abbrev pub stands_alone : Condition → Bool → (hits : ℕ) → Standing
stands_alone c truth hits = record {
  met = met None truth;
  reset = (settled c truth hits None).reset;
  total = (settled c truth hits None).total;
  valid = (settled c truth hits None).valid;
}
