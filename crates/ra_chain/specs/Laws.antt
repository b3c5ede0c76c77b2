-- The pass order in the words of chains: docs/DEFINITIONS.md, "Chains and pass order".
use Rattle.std.specs.Prelude.{◌≡◌, ℕ, ◌<◌, ◌≤◌, true, List, length, slice_index}
use Rattle.ra_condition.specs.declared.condition.Condition.{Condition}
use Rattle.ra_condition.specs.Flags.{combines, is_pause}
use Rattle.ra_condition.specs.Contents.{flag_at}

-- the chain of the condition at j ends in a PauseIf
pub record EndsInPause (cs : List Condition) (j : ℕ) : Type 0 where
  pub end : ℕ
  pub from : j ≤ end
  pub within : end < length cs
  pub chained : (k : ℕ) → j ≤ k → k < end → combines (flag_at cs k) ≡ true
  pub pauses : is_pause (flag_at cs end) ≡ true

-- the conditions at i and j stand in one chain, i first
pub record AreChained (cs : List Condition) (i j : ℕ) : Type 0 where
  pub earlier : i < j
  pub within : j < length cs
  pub chained : (k : ℕ) → i ≤ k → k < j → combines (flag_at cs k) ≡ true

-- i stands before j in a list
pub record StandsBefore (xs : List ℕ) (i j : ℕ) : Type 0 where
  pub first : ℕ
  pub second : ℕ
  pub rising : first < second
  pub within : second < length xs
  pub at_first : slice_index xs first ≡ i
  pub at_second : slice_index xs second ≡ j
