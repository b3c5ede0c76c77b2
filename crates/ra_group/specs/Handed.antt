-- Comparisons that agree at each condition that counts hits: docs/DEFINITIONS.md, "Equations of a condition".
use Rattle.std.specs.Prelude.{◌≡◌, ℕ, Bool, false, List, slice_index_or}
use Rattle.ra_condition.specs.declared.condition.Condition.{Condition}
use Rattle.ra_condition.specs.Flags.{hands_on}
use Rattle.ra_condition.specs.Contents.{flag_at}

-- the comparisons agree at each condition that counts hits
pub record AgreeWhereCounted (cs : List Condition) (truths truths' : List Bool) : Type 0 where
  pub at : (j : ℕ) → hands_on (flag_at cs j) ≡ false → slice_index_or truths j false ≡ slice_index_or truths' j false
