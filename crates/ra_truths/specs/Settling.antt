-- Truths that are computed anew one after another: docs/INTERNALS.md, "Truths of comparisons".
use Rattle.std.specs.Prelude.{◌≡◌, ◌≢◌, ◌⊎◌, ℕ, ◌+◌, ◌<◌, ◌≤◌, Bool, false, if◌then◌else◌, List, [], ◌∷◌, length}
use Rattle.std.specs.Prelude.{slice_index_or}
use Rattle.ra_memref.specs.Table.{IsListed}
use Rattle.ra_truths.specs.Kept.{KeptSeen, differ}

-- how many of the truths are not the wanted ones
abbrev pub unsettled : (truths wanted : List Bool) → ℕ
unsettled [] wanted = 0
unsettled (x ∷ truths) [] = 0
unsettled (x ∷ truths) (y ∷ wanted) = (if differ x y then 1 else 0) + unsettled truths wanted

-- some truths were set to the wanted ones: those that flipped are listed, and there is room for the others
pub record Settles (wanted : List Bool) (old new : KeptSeen) : Type 0 where
  pub long : length new.truths ≡ length wanted
  pub either : (k : ℕ) → (slice_index_or new.truths k false ≡ slice_index_or wanted k false)
      ⊎ (slice_index_or new.truths k false ≡ slice_index_or old.truths k false)
  pub each : (k : ℕ) → slice_index_or old.truths k false ≢ slice_index_or new.truths k false → IsListed k new.flipped
  pub only : (k : ℕ) → IsListed k new.flipped
      → (k < length wanted) × (slice_index_or old.truths k false ≢ slice_index_or wanted k false)
  pub room : length new.flipped + unsettled new.truths wanted ≤ length wanted
