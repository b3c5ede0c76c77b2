-- The greatest number so far, compared as signed numbers.
use Rattle.std.proofs.Common.{◌≡◌, ℕ, ◌+◌, ◌^◌, ◌<◌, true, false, cond, ltb, List, [], ◌∷◌, ◌++◌, length, get_or, take}
use Rattle.std.proofs.Common.{ℤ, refl, sym, ap, ◌∙◌, arith, length-take}
use Rattle.std.specs.Int.{w32, cast_signed, cast_unsigned}
use Rattle.std.specs.Int.Signed.{lt_z}
use Rattle.std.proofs.lemmas.Int.{ints, of_z-to_z}
use Rattle.std.proofs.lemmas.List.{take_more}
use Rattle.ra_value.specs.Steps.{signed_place, signed_max, greatest_from, greatest}

-- the order of places is that of signed numbers
signed_order : (m n : ℕ) → m < 2 ^ 32 → n < 2 ^ 32 → lt_z (cast_signed w32 m) (cast_signed w32 n)
    ≡ ltb (signed_place m) (signed_place n)
signed_order m n lm ln = grind (arith, ints)

pub signed_order-cast : (m n : ℕ) (a b : ℤ) → m < 2 ^ 32 → n < 2 ^ 32 → a ≡ cast_signed w32 m → b
    ≡ cast_signed w32 n → lt_z (cast_signed w32 (cast_unsigned w32 a))
    (cast_signed w32 (cast_unsigned w32 b)) ≡ ltb (signed_place m) (signed_place n)
signed_order-cast m n a b lm ln is_a is_b =
    ap (λ z. lt_z (cast_signed w32 (cast_unsigned w32 z)) (cast_signed w32 (cast_unsigned w32 b))) is_a
    ∙ ap (λ z. lt_z (cast_signed w32 (cast_unsigned w32 (cast_signed w32 m)))
    (cast_signed w32 (cast_unsigned w32 z))) is_b
    ∙ ap (λ k. lt_z (cast_signed w32 k) (cast_signed w32 (cast_unsigned w32 (cast_signed w32 n)))) (of_z-to_z w32 m lm)
    ∙ ap (λ k. lt_z (cast_signed w32 m) (cast_signed w32 k)) (of_z-to_z w32 n ln)
    ∙ signed_order m n lm ln

greatest_from-push : (best : ℕ) (ns : List ℕ) (n : ℕ) → greatest_from best (ns ++ n ∷ [])
    ≡ signed_max (greatest_from best ns) n
greatest_from-push best [] n = refl
greatest_from-push best (m ∷ ns) n = greatest_from-push (signed_max best m) ns n

greatest-push : (ns : List ℕ) (n : ℕ) → 0 < length ns → greatest (ns ++ n ∷ []) ≡ signed_max (greatest ns) n
greatest-push [] n some = absurd (omega arith)
greatest-push (m ∷ ns) n some = greatest_from-push m ns n

module _ (ns : List ℕ) (k : ℕ) (within : k < length ns) where
  pub greatest_first : k ≡ 0 → get_or ns k 0 ≡ greatest (take (k + 1) ns)
  greatest_first z = ap (λ xs. greatest (xs ++ get_or ns k 0 ∷ [])) (sym (ap (λ n. take n ns) z))
      ∙ ap greatest (sym (take_more ns k 0 within))

  -- the greater of the greatest so far and the next number
  greatest_next : (k ≡ 0 → ⊥) → (best : ℕ) → best ≡ greatest (take k ns)
      → signed_max best (get_or ns k 0) ≡ greatest (take (k + 1) ns)
  greatest_next later best so_far =
      ap (λ m. signed_max m (get_or ns k 0)) so_far
      ∙ sym (ap greatest (take_more ns k 0 within)
      ∙ greatest-push (take k ns) (get_or ns k 0) (omega (arith, length-take k ns)))

  pub greatest_taken : (k ≡ 0 → ⊥) → (best : ℕ) → best ≡ greatest (take k ns) → ltb (signed_place
      best) (signed_place (get_or ns k 0)) ≡ true → get_or ns k 0 ≡ greatest (take (k + 1) ns)
  greatest_taken later best so_far less = sym (ap (λ b. cond b (get_or ns k 0) best) less)
      ∙ greatest_next later best so_far

  pub greatest_kept : (k ≡ 0 → ⊥) → (best : ℕ) → best ≡ greatest (take k ns) → ltb
      (signed_place best) (signed_place (get_or ns k 0)) ≡ false → best ≡ greatest (take (k + 1) ns)
  greatest_kept later best so_far more = sym (ap (λ b. cond b (get_or ns k 0) best) more)
      ∙ greatest_next later best so_far
