-- How comparisons are found again: docs/INTERNALS.md, "Truths of comparisons".
use Rattle.std.specs.Prelude.{◌≡◌, ◌≢◌, ◌⊎◌, ℕ, suc, ◌<◌, Option, Some, List, length, slice_index}
use Rattle.ra_truths.specs.declared.comparison.Comparison.{Comparison}
use Rattle.ra_truths.specs.Comparisons.{comparison_at}

-- for each node from 0 on there is one more than the number of a comparison that has it on the left, or 0 where none
-- has; each other comparison has a number by which it is found
pub record AreFound (list : List Comparison) (firsts : List ℕ) (number_of : Comparison → Option ℕ) : Type 0 where
  pub none : (left k : ℕ) → left < length firsts → slice_index firsts left ≡ 0 → k < length list
      → (comparison_at list k).left ≢ left
  pub first : (left k : ℕ) → slice_index firsts left ≡ suc k → k < length list
  pub each : (k : ℕ) → k < length list → (slice_index firsts (comparison_at list k).left ≡ suc k)
      ⊎ (number_of (comparison_at list k) ≡ Some k)
  pub others : (c : Comparison) (k : ℕ) → number_of c ≡ Some k → (k < length list) × (comparison_at list k ≡ c)
