-- Bytes at a place of a file, and its last ones.
use Rattle.std.proofs.Common.{◌≡◌, ℕ, ◌+◌, ◌-◌, ◌≤◌, List, [], ◌∷◌, length, take, drop, get_or, refl, ◌∙◌, ap, arith}
use Rattle.std.proofs.lemmas.List.{take_all, length-drop}
use Rattle.ra_progress.specs.Layout.{sum_in}
use Rattle.ra_text.proofs.Bytes.{step, four_bytes}

pub eight_bytes : (bytes : List ℕ) (at : ℕ) → at + 8 ≤ length bytes → take 8 (drop at bytes)
    ≡ get_or bytes at 0 ∷ get_or bytes (at + 1) 0 ∷ get_or bytes (at + 2) 0
    ∷ get_or bytes (at + 3) 0 ∷ get_or bytes (at + 4) 0 ∷ get_or bytes (at + 5) 0
    ∷ get_or bytes (at + 6) 0 ∷ get_or bytes (at + 7) 0 ∷ []
eight_bytes bytes at within =
    step bytes at (at + 1) 7 (omega arith) (omega arith)
    ∙ ap (λ t. get_or bytes at 0 ∷ t) (step bytes (at + 1) (at + 2) 6 (omega arith) (omega arith)
    ∙ ap (λ t. get_or bytes (at + 1) 0 ∷ t) (step bytes (at + 2) (at + 3) 5 (omega arith) (omega arith)
    ∙ ap (λ t. get_or bytes (at + 2) 0 ∷ t) (step bytes (at + 3) (at + 4) 4 (omega arith) (omega arith)
    ∙ ap (λ t. get_or bytes (at + 3) 0 ∷ t) (four_bytes bytes (at + 4) (omega arith) ∙ later))))
  where
    later : get_or bytes (at + 4) 0 ∷ get_or bytes (at + 4 + 1) 0 ∷ get_or bytes (at + 4 + 2) 0
        ∷ get_or bytes (at + 4 + 3) 0 ∷ [] ≡ get_or bytes (at + 4) 0 ∷ get_or bytes (at + 5) 0
        ∷ get_or bytes (at + 6) 0 ∷ get_or bytes (at + 7) 0 ∷ []
    later =
        let a : at + 4 + 1 ≡ at + 5 = omega arith in
        let b : at + 4 + 2 ≡ at + 6 = omega arith in
        let c : at + 4 + 3 ≡ at + 7 = omega arith in
        rw (a, b, c) refl

-- the last sixteen bytes
pub last_sixteen : (bytes : List ℕ) → 16 ≤ length bytes → take 16 (drop (length bytes - 16) bytes) ≡ sum_in bytes
last_sixteen bytes long =
    take_all 16 (drop (length bytes - 16) bytes) (omega (arith, length-drop (length bytes - 16) bytes))
