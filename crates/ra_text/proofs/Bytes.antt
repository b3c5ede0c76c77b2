-- The bytes at a place of a list, one by one.
use Rattle.std.proofs.Common.{◌≡◌, ℕ, suc, ◌+◌, ◌<◌, ◌≤◌, List, [], ◌∷◌, length, take, drop, get_or, refl, ◌∙◌, ap}
use Rattle.std.proofs.Common.{arith, drop-cons}

-- the bytes from a place on, the first apart
pub step : (bytes : List ℕ) (at next n : ℕ) → next ≡ suc at → at < length bytes
    → take (suc n) (drop at bytes) ≡ get_or bytes at 0 ∷ take n (drop next bytes)
step bytes at next n e below = rw (e, drop-cons bytes at 0) refl

-- the four bytes at a place
pub four_bytes : (bytes : List ℕ) (at : ℕ) → at + 4 ≤ length bytes
    → take 4 (drop at bytes) ≡ get_or bytes at 0 ∷ get_or bytes (at + 1) 0 ∷ get_or bytes (at + 2) 0
    ∷ get_or bytes (at + 3) 0 ∷ []
four_bytes bytes at within =
    step bytes at (at + 1) 3 (omega arith) (omega arith)
    ∙ ap (λ t. get_or bytes at 0 ∷ t) (step bytes (at + 1) (at + 2) 2 (omega arith) (omega arith)
    ∙ ap (λ t. get_or bytes (at + 1) 0 ∷ t) (step bytes (at + 2) (at + 3) 1 (omega arith) (omega arith)
    ∙ ap (λ t. get_or bytes (at + 2) 0 ∷ t) (step bytes (at + 3) (at + 4) 0 (omega arith) (omega arith))))
