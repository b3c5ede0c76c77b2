-- A write changes the bytes that it writes, and no others.
use Rattle.std.proofs.Common.{refl, ◌≡◌, ℕ, ◌+◌, ◌-◌, ◌<◌, ◌≤◌, ◌⊎◌, inl, inr, List, ◌++◌, length, take, drop, get_or}
use Rattle.std.proofs.Common.{arith, ap, ◌∙◌, length-append, length-take, length-drop}
use Rattle.std.proofs.lemmas.List.{get_or_append_left, get_or-append_right, get_or-take, get_or-drop}
use Rattle.ra_memory.specs.Image.{written}

module _ (image bytes : List ℕ) (at : ℕ) (fits : at + length bytes ≤ length image) where
  front : length (take at image) ≡ at
  front = omega (arith, length-take at image)

  -- the size stays
  pub length-written : length (written image at bytes) ≡ length image
  length-written =
      omega (
        arith,
        length-append (take at image) (bytes ++ drop (at + length bytes) image),
        length-append bytes (drop (at + length bytes) image),
        length-drop (at + length bytes) image,
        front,
      )

  before : (k : ℕ) → k < at → get_or (written image at bytes) k 0 ≡ get_or image k 0
  before k below =
      get_or_append_left (take at image) (bytes ++ drop (at + length bytes) image) 0 k (omega (arith, front))
      ∙ get_or-take at image k 0 below

  after : (k : ℕ) → at + length bytes ≤ k → get_or (written image at bytes) k 0 ≡ get_or image k 0
  after k above =
      get_or-append_right (take at image) (bytes ++ drop (at + length bytes) image) at k 0 front (omega arith)
      ∙ get_or-append_right bytes (drop (at + length bytes) image) (length bytes) (k - at) 0 refl (omega arith)
      ∙ get_or-drop (at + length bytes) image (k - at - length bytes) 0
      ∙ ap (λ i. get_or image i 0) (let here : at + length bytes + (k - at - length bytes) ≡ k = omega arith in here)
