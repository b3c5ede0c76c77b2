-- The account of one condition: docs/DEFINITIONS.md, "Account of an achievement". A list has what each frame shows of
-- it, the newest first.
use Rattle.std.specs.Prelude.{◌≡◌, ℕ, ◌<◌, List, length, map, slice_index_or}
use Rattle.ra_account.specs.declared.facts.Facts.{Facts}
use Rattle.ra_account.specs.declared.condition.ConditionAccount.{ConditionAccount}
use Rattle.ra_account.specs.Counting.{times_of}
use Rattle.ra_account.specs.Greatest.{best_of, range_of}
use Rattle.ra_account.specs.Marks.{IsSound, IsTimeline}

-- an account of the condition over these frames
pub record IsAccountOf (frames : List Facts) (a : ConditionAccount) : Type 0 where
  pub counts : a.counts ≡ times_of (map (λ f. f.counts) frames)
  pub past : a.past ≡ times_of (map (λ f. f.past) frames)
  pub best : a.best ≡ best_of (map (λ f. f.total) frames)
  pub left : a.left ≡ range_of (map (λ f. f.left) frames)
  pub right : a.right ≡ range_of (map (λ f. f.right) frames)
  pub columns : IsTimeline (map (λ f. f.counts) frames) a.columns

-- an account of this many frames, whatever they showed
pub record StandsAt (count : ℕ) (a : ConditionAccount) : Type 0 where
  pub frames : List Facts
  pub long : length frames ≡ count
  pub account : IsAccountOf frames a
  pub sound : IsSound a.columns

-- an account of each condition over the frames of each
abbrev pub AreAccounts : (ℕ → List Facts) → List ConditionAccount → Type 0
AreAccounts frames accounts =
    (j : ℕ) → j < length accounts → (d : ConditionAccount) → IsAccountOf (frames j) (slice_index_or accounts j d)

-- each is an account of this many frames
abbrev pub AllStandAt : ℕ → List ConditionAccount → Type 0
AllStandAt count accounts =
    (j : ℕ) → j < length accounts → (d : ConditionAccount) → StandsAt count (slice_index_or accounts j d)
