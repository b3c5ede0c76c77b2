-- A frame in a group without chains, beside the frame before it: docs/DEFINITIONS.md, "Account of an achievement".
use Rattle.std.specs.Prelude.{◌≡◌, ℕ, ◌<◌, Bool, List, ◌∷◌, length, slice_index, slice_index_or}
use Rattle.ra_condition.specs.declared.condition.Condition.{Condition}
use Rattle.ra_condition.specs.Contents.{flag_at}
use Rattle.ra_group.specs.Equations.{Frame}
use Rattle.ra_account.specs.declared.noting.Noting.{Noting}
use Rattle.ra_account.specs.declared.sight.Sight.{Sight}
use Rattle.ra_account.specs.Facts.{pointer_by}
use Rattle.ra_account.specs.Groups.{GroupRow, AreWantedBy, no_sight, row_frame, row_in}

-- the group at the frame that is noted
abbrev pub frame_in : Noting → Frame
frame_in n = row_frame n.conditions.now (row_in n.row)

-- no pointer has another value than before
abbrev pub PointAlike : List Condition → List Sight → GroupRow → Type 0
PointAlike cs seen row = (j : ℕ) → j < length cs
    → pointer_by (flag_at cs j) (slice_index_or seen j no_sight).left
    ≡ pointer_by (flag_at cs j) (slice_index row.lefts j)

-- this is the first of a list
pub record FirstIs {A : Type 0} (x : A) (xs : List A) : Type 0 where
  pub others : List A
  pub is : xs ≡ x ∷ others

-- there was a frame before, and it wants of each condition what is told of it, if the group is paused as at this one
pub record MayStay (n : Noting) (seen : List Sight) (wants : List Bool) : Type 0 where
  pub some : 0 < n.at
  pub wanted : AreWantedBy n.conditions.now n.paused seen wants
