-- The first bytes of a number of four.
use Rattle.std.proofs.Common.{◌≡◌, ℕ, suc, ◌*◌, ◌%◌, ◌<◌, ◌^◌, inl, inr, List, [], ◌∷◌, bit_and, slice_index_or, get_or}
use Rattle.std.proofs.Common.{ap, sym, ◌∙◌, arith}
use Rattle.std.proofs.lemmas.Nat.{and_mask}
use Rattle.ra_memory.specs.Image.{raw, IsReadWidth}

-- the bits of the first bytes, by how many they are
abbrev pub masks : List ℕ
masks = 0 ∷ 255 ∷ 65535 ∷ 16777215 ∷ 4294967295 ∷ []

-- a mask leaves the remainder
pub masked : (n width : ℕ) → IsReadWidth width → bit_and n (slice_index_or masks width 0) ≡ n % 2 ^ (8 * width)
masked n width (inl one) = ap (λ w. bit_and n (slice_index_or masks w 0)) one ∙ and_mask n 8
    ∙ ap (λ w. n % 2 ^ (8 * w)) (sym one)
masked n width (inr (inl two)) = ap (λ w. bit_and n (slice_index_or masks w 0)) two ∙ and_mask n 16
    ∙ ap (λ w. n % 2 ^ (8 * w)) (sym two)
masked n width (inr (inr four)) = ap (λ w. bit_and n (slice_index_or masks w 0)) four
    ∙ and_mask n 32 ∙ ap (λ w. n % 2 ^ (8 * w)) (sym four)

module _ (bytes : List ℕ) (at : ℕ) (fit : (k : ℕ) → get_or bytes k 0 < 256) where
  -- the remainder is the number of the first bytes
  pub first_bytes : (width : ℕ) → IsReadWidth width → raw 4 bytes at % 2 ^ (8 * width) ≡ raw width bytes at
  first_bytes width (inl one) =
      ap (λ w. raw 4 bytes at % 2 ^ (8 * w)) one ∙ omega (arith, fit at) ∙ ap (λ w. raw w bytes at) (sym one)
  first_bytes width (inr (inl two)) =
      ap (λ w. raw 4 bytes at % 2 ^ (8 * w)) two ∙ omega (arith, fit at, fit (suc at))
      ∙ ap (λ w. raw w bytes at) (sym two)
  first_bytes width (inr (inr four)) =
      ap (λ w. raw 4 bytes at % 2 ^ (8 * w)) four
      ∙ omega (arith, fit at, fit (suc at), fit (suc (suc at)), fit (suc (suc (suc at))))
      ∙ ap (λ w. raw w bytes at) (sym four)
