-- The greatest number of some frames, and the first frame that has it, with one frame more.
use Rattle.std.proofs.Common.{◌≡◌, ℕ, ◌<◌, ◌≤◌, List, [], ◌∷◌, length, map, refl, arith}
use Rattle.std.specs.Prelude.{◌==◌}
use Rattle.std.proofs.lemmas.Grind.{common_steps}
use Rattle.ra_account.specs.Counting.{count_of}
use Rattle.ra_account.specs.Greatest.{greatest_of, best_of}

-- a number above the greatest is at no frame
pub above_greatest : (n : ℕ) (numbers : List ℕ) → greatest_of numbers < n → count_of (map (λ m. m == n) numbers) ≡ 0
above_greatest n [] above = refl
above_greatest n (now ∷ earlier) above = grind (arith, common_steps, above_greatest n earlier)

-- the greatest of some numbers is one of them
pub greatest_there : (now : ℕ) (earlier : List ℕ)
    → 0 < count_of (map (λ m. m == greatest_of (now ∷ earlier)) (now ∷ earlier))
greatest_there now [] = grind (arith, common_steps)
greatest_there now (before ∷ earlier) = grind (arith, common_steps, greatest_there before earlier)

-- a number above all before it is the greatest, and its frame the first that has it
pub best_above : (now : ℕ) (earlier : List ℕ) → greatest_of earlier < now → best_of (now ∷ earlier)
    ≡ record { total = now; at = length earlier }
best_above now earlier above = grind (arith, common_steps, above_greatest now earlier)

-- a number that is not above all before it changes nothing
pub best_below : (now : ℕ) (earlier : List ℕ) → now ≤ greatest_of earlier → best_of (now ∷ earlier) ≡ best_of earlier
best_below now [] below = grind (arith, common_steps)
best_below now (before ∷ earlier) below = grind (arith, common_steps, greatest_there before earlier)
