-- The format of each leaderboard of a set has digits.
use Rattle.std.proofs.Common.{◌≡◌, ℕ, ◌==◌, ◌&&◌, Bool, true, false, cond, Option, None, Some, List, [], ◌∷◌, map}
use Rattle.std.proofs.Common.{subst}
use Rattle.ra_condition.specs.declared.condition.Condition.{Condition}
use Rattle.ra_set.specs.Contents.{ItemContents, Unlocks, Ranks}
use Rattle.ra_value_format.specs.Formats.{HasDigits}
use Rattle.ra_value_format.specs.declared.format.Format.{Format}
use Rattle.ra_items.specs.AllRuns.{HaveDigits}
use Rattle.ra_goals.specs.Goals.{achievement_goal, format_in, goal_of, measured_of}

module _ (id : ℕ) (f : Format) where
  -- an achievement is passed over
  passed : (b : Bool) (x : Format) (rest : Option Format) → cond (b && false) (Some x) rest ≡ Some f → rest ≡ Some f
  passed true x rest is = is
  passed false x rest is = is

  past : (other : ℕ) (o : Option Condition) (items : List ItemContents) → format_in id
      (achievement_goal other o ∷ map goal_of items) ≡ Some f → format_in id (map goal_of items)
      ≡ Some f
  past other None items is = passed (other == id) (achievement_goal other None).format
      (format_in id (map goal_of items)) is
  past other (Some c) items is = passed (other == id) (achievement_goal other (Some c)).format
      (format_in id (map goal_of items)) is

  same_format : (x : Format) → Some x ≡ Some f → x ≡ f
  same_format x same = cc

  -- a leaderboard is the one that is looked for, or passed over
  one_of : (b : Bool) (x : Format) (rest : Option Format) → HasDigits x
      → (rest ≡ Some f → HasDigits f) → cond (b && true) (Some x) rest ≡ Some f → HasDigits f
  one_of true x rest has more is = subst HasDigits (same_format x is) has
  one_of false x rest has more is = more is

  pub digits_in : (items : List ItemContents) → HaveDigits items → format_in id (map goal_of items)
      ≡ Some f → HasDigits f
  digits_in [] have is = absurd (cc)
  digits_in (Unlocks other t ∷ items) have is = digits_in items have.1 (past other (measured_of t) items is)
  digits_in (Ranks other format b ∷ items) have is = one_of (other == id) format
      (format_in id (map goal_of items)) have.0 (digits_in items have.1) is
