-- The account of a condition of which the last frames are still to be counted: docs/DEFINITIONS.md, "Account of an
-- achievement". A list has what each frame shows of it, the newest first.
use Rattle.std.specs.Prelude.{◌≡◌, ℕ, ◌<◌, Bool, List, ◌++◌, length, map, replicate, slice_index_or}
use Rattle.ra_account.specs.declared.facts.Facts.{Facts}
use Rattle.ra_account.specs.declared.condition.ConditionAccount.{ConditionAccount}
use Rattle.ra_account.specs.declared.running.Running.{Running}
use Rattle.ra_account.specs.Counting.{times_of}
use Rattle.ra_account.specs.Greatest.{best_of, range_of}
use Rattle.ra_account.specs.Marks.{IsSound, IsTimeline}

-- it has counted the frames that are so of these, and of as many where it is past memory
pub record HasCounted (counts past : List Bool) (a : ConditionAccount) : Type 0 where
  pub as_many : length past ≡ length counts
  pub counts_too : a.counts ≡ times_of counts
  pub past_too : a.past ≡ times_of past
  pub columns_too : IsTimeline counts a.columns

-- the same of this many frames, whatever they showed
pub record CountedTo (count : ℕ) (a : ConditionAccount) : Type 0 where
  pub counts : List Bool
  pub past : List Bool
  pub long : length counts ≡ count
  pub counted : HasCounted counts past a
  pub sound : IsSound a.columns

-- it has the best and the values of these frames
pub record HasSeen (frames : List Facts) (a : ConditionAccount) : Type 0 where
  pub best : a.best ≡ best_of (map (λ f. f.total) frames)
  pub left : a.left ≡ range_of (map (λ f. f.left) frames)
  pub right : a.right ≡ range_of (map (λ f. f.right) frames)

-- the best and the values stay
pub record HasNumbersOf (old new : ConditionAccount) : Type 0 where
  pub best : new.best ≡ old.best
  pub left : new.left ≡ old.left
  pub right : new.right ≡ old.right

-- it has counted these frames but for the last ones, which are alike
pub record Runs (frames : List Facts) (r : Running) : Type 0 where
  pub latest : List Facts
  pub before : List Facts
  pub split : frames ≡ latest ++ before
  pub since_too : r.since ≡ length before
  pub counts_too : map (λ f. f.counts) latest ≡ replicate (length latest) r.counts
  pub past_too : map (λ f. f.past) latest ≡ replicate (length latest) r.past
  pub counted : HasCounted (map (λ f. f.counts) before) (map (λ f. f.past) before) r.account
  pub seen : HasSeen frames r.account

-- and the last frame is one of those
pub record IsRunning (frames : List Facts) (r : Running) : Type 0 where
  pub runs : Runs frames r
  pub some : 0 < length frames → r.since < length frames

-- the same of this many frames, whatever they showed
pub record RunsAt (count : ℕ) (r : Running) : Type 0 where
  pub frames : List Facts
  pub long : length frames ≡ count
  pub running : IsRunning frames r
  pub sound : IsSound r.account.columns

-- one of each condition over the frames of each
abbrev pub AreRunning : (ℕ → List Facts) → List Running → Type 0
AreRunning frames accounts =
    (j : ℕ) → j < length accounts → (d : Running) → IsRunning (frames j) (slice_index_or accounts j d)

-- each is one of this many frames
abbrev pub AllRunAt : ℕ → List Running → Type 0
AllRunAt count accounts =
    (j : ℕ) → j < length accounts → (d : Running) → RunsAt count (slice_index_or accounts j d)
