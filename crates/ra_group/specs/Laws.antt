-- The equations read condition by condition, with the condition before found by the text alone: docs/DEFINITIONS.md,
-- "Equations of a condition".
use Rattle.std.specs.Prelude.{◌≡◌, ℕ, ◌<◌, ◌≤◌, Bool, true, false, ◌==◌, List, slice_index, slice_index_or, pos, ◌+ℤ◌}
use Rattle.ra_condition.specs.declared.condition.Condition.{Condition}
use Rattle.ra_condition.specs.Flags.{combines, hands_on}
use Rattle.ra_condition.specs.Contents.{condition_at, flag_at}
use Rattle.ra_group.specs.Equations.{Frame, met, met_after, reset_after, add_after, hits_after, valid_alone, clamped}
use Rattle.ra_group.specs.Equations.{reached, prev_of, settled_at}

-- the nearest earlier condition of the chain of j that counts hits is i
pub record IsPrev (cs : List Condition) (j i : ℕ) : Type 0 where
  pub earlier : i < j
  pub chained : (k : ℕ) → i ≤ k → k < j → combines (flag_at cs k) ≡ true
  pub counts : hands_on (flag_at cs i) ≡ false
  pub nearest : (k : ℕ) → i < k → k < j → hands_on (flag_at cs k) ≡ true

-- the comparison of the condition at j
abbrev pub truth_at : Frame → ℕ → Bool
truth_at f j = slice_index_or f.truths j false

-- the hit target of the condition at j
abbrev pub target_at : Frame → ℕ → ℕ
target_at f j = (condition_at f.conditions j).target

-- the hits of the condition at j before the frame
abbrev pub hits_at : Frame → ℕ → ℕ
hits_at f j = slice_index f.hits j

-- whether the condition at j is met
abbrev pub met_at : Frame → ℕ → Bool
met_at f j = met (prev_of f j) (truth_at f j)

-- whether the condition at j is valid by itself
abbrev pub valid_alone_at : Frame → ℕ → Bool
valid_alone_at f j = valid_alone (settled_at f j).reset (met_at f j) (target_at f j) (settled_at f j).hit

-- whether the target of the condition at j is reached
abbrev pub reached_at : Frame → ℕ → Bool
reached_at f j = reached (target_at f j) (settled_at f j).total

-- the equations that look at the condition before, where it is i
pub record HasEquationsAfter (f : Frame) (j i : ℕ) : Type 0 where
  pub met : met_at f j ≡ met_after (flag_at f.conditions i) (settled_at f i).valid (truth_at f j)
  pub reset : (settled_at f j).reset
      ≡ reset_after (flag_at f.conditions i) (settled_at f i).valid (settled_at f i).reset
  pub add : (settled_at f j).add ≡ add_after (flag_at f.conditions i) (settled_at f i).add (settled_at f i).hit

-- the equations that look at the condition before, where there is none
pub record HasEquationsFirst (f : Frame) (j : ℕ) : Type 0 where
  pub met : met_at f j ≡ truth_at f j
  pub reset : (settled_at f j).reset ≡ false
  pub add : (settled_at f j).add ≡ pos 0

-- the equations that look at no other condition
pub record HasOwnEquations (f : Frame) (j : ℕ) : Type 0 where
  pub hit : (settled_at f j).hit ≡ hits_after (settled_at f j).reset (met_at f j) (target_at f j) (hits_at f j)
  pub total : (settled_at f j).total ≡ clamped (pos (settled_at f j).hit +ℤ (settled_at f j).add)
  pub valid_within : combines (flag_at f.conditions j) ≡ true → (settled_at f j).valid ≡ valid_alone_at f j
  pub valid_by_target : combines (flag_at f.conditions j) ≡ false → (target_at f j == 0) ≡ false
      → (settled_at f j).valid ≡ reached_at f j
  pub valid_by_itself : (target_at f j == 0) ≡ true → (settled_at f j).valid ≡ valid_alone_at f j
