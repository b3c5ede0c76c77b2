-- The frame at which the fewest conditions were missing: docs/DEFINITIONS.md, "Account of an achievement". A list has
-- an entry for each frame, the newest first.
use Rattle.std.specs.Prelude.{◌≡◌, ℕ, Bool, true, not, ◌&&◌, ◌||◌, nat_lt, Option, Some, List, [], ◌∷◌, map, find}
use Rattle.std.specs.List.{list_any}
use Rattle.ra_account.specs.declared.nearest.Nearest.{Nearest}
use Rattle.ra_account.specs.Counting.{count_of, last_of}

-- what a frame wants: whether it has a reset, and for each condition whether it is missing
pub record Lack : Type 0 where
  pub reset : Bool
  pub wants : List Bool

-- how many conditions a frame wants
abbrev pub lacks : Lack → ℕ
lacks l = count_of l.wants

-- a frame is nearer than another: it alone has no reset, or it wants fewer and has a reset only where the other has
abbrev pub nearer_by : (reset : Bool) → ℕ → (other_reset : Bool) → ℕ → Bool
nearer_by reset count other_reset other_count =
    (not reset && other_reset) || ((not reset || other_reset) && nat_lt count other_count)

-- the same of what two frames want
abbrev pub nearer : Lack → Lack → Bool
nearer a b = nearer_by a.reset (lacks a) b.reset (lacks b)

-- no frame is nearer than this one
abbrev pub is_nearest : List Lack → Lack → Bool
is_nearest frames l = not (list_any (λ other. nearer other l) frames)

-- the number of the last frame than which none is nearer; 0 where there is no frame
abbrev pub nearest_at : List Lack → ℕ
nearest_at frames = last_of (map (is_nearest frames) frames)

-- what the last frame wants than which none is nearer
abbrev pub nearest_of : List Lack → Option Lack
nearest_of frames = find (is_nearest frames) frames

-- the nearest of one or more frames
pub record IsNearestOf (frames : List Lack) (n : Nearest) : Type 0 where
  pub at_too : n.at ≡ nearest_at frames
  pub lack : nearest_of frames ≡ Some (record { reset = n.reset; wants = n.wants.items })
  pub count_too : n.count ≡ count_of n.wants.items

-- the nearest of some frames; where there is none, any frame is nearer than what stands there
abbrev pub IsNearest : List Lack → Nearest → Type 0
IsNearest [] n = (n.at ≡ 0) × (n.reset ≡ true) × (n.count ≡ 18446744073709551615)
IsNearest (now ∷ earlier) n = IsNearestOf (now ∷ earlier) n
