-- Copies of accounts: docs/DEFINITIONS.md, "Account of an achievement".
use Rattle.std.specs.Prelude.{◌≡◌}
use Rattle.ra_account.specs.declared.columns.Columns.{Columns}
use Rattle.ra_account.specs.declared.condition.ConditionAccount.{ConditionAccount}
use Rattle.ra_account.specs.declared.nearest.Nearest.{Nearest}

-- the same columns
pub record AreColumnsOf (old copy : Columns) : Type 0 where
  pub width : copy.width ≡ old.width
  pub full : copy.full ≡ old.full
  pub begun : copy.begun ≡ old.begun
  pub marks : copy.marks.items ≡ old.marks.items

-- the same account of a condition
pub record IsAccountLike (old copy : ConditionAccount) : Type 0 where
  pub counts_too : copy.counts ≡ old.counts
  pub past_too : copy.past ≡ old.past
  pub best_too : copy.best ≡ old.best
  pub left_too : copy.left ≡ old.left
  pub right_too : copy.right ≡ old.right
  pub columns_too : AreColumnsOf old.columns copy.columns

-- the same nearest frame
pub record IsNearestLike (old copy : Nearest) : Type 0 where
  pub at_too : copy.at ≡ old.at
  pub reset_too : copy.reset ≡ old.reset
  pub count_too : copy.count ≡ old.count
  pub wants_too : copy.wants.items ≡ old.wants.items
