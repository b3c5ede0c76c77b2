-- The greatest number of a value, and what a reset leaves of it.
use Rattle.std.proofs.Common.{◌≡◌, ℕ, zero, suc, ◌^◌, ◌<◌, ◌≤◌, Bool, true, false, cond, ltb, ◌⊎◌, unwrap_or, None}
use Rattle.std.proofs.Common.{List, [], ◌∷◌, length, get_or, replicate, refl, ap, ◌∙◌, inl, inr, arith}
use Rattle.std.specs.List.{flat_map, list_any}
use Rattle.std.specs.Int.{w32, cast_signed}
use Rattle.std.specs.Int.Signed.{◌≤ℤ◌}
use Rattle.std.proofs.lemmas.Int.{ints}
use Rattle.std.proofs.lemmas.Bool.{ltb-true, ltb-false}
use Rattle.ra_condition.specs.declared.condition.Condition.{Condition}
use Rattle.ra_condition.specs.Flags.{is_measured_if}
use Rattle.ra_condition.specs.Chains.{places}
use Rattle.ra_condition.specs.Contents.{PartContents, Grouped, value_hits}
use Rattle.ra_group.specs.declared.form.Form.TheVariants.{InValue}
use Rattle.ra_group.specs.Equations.{Frame}
use Rattle.ra_group.specs.Outcome.{outcome_of, option_if, all_valid, greatest as greatest_number}
use Rattle.ra_value.specs.Steps.{ValueKept, part_step, part_steps, step, signed_place, signed_max, greatest_from}
use Rattle.ra_value.specs.Steps.{signed_greatest}
use Rattle.ra_value.specs.Laws.{AreWords, IsSignedGreatest}
use Rattle.ra_value.proofs.PartsLemmas.{length-hits_of}

-- the greater of two is one of them, and neither is above it
record IsGreater (m n most : ℕ) : Type 0 where
  one : (most ≡ m) ⊎ (most ≡ n)
  first : signed_place m ≤ signed_place most
  second : signed_place n ≤ signed_place most

signed_max-greater : (m n : ℕ) → IsGreater m n (signed_max m n)
signed_max-greater m n = by_test (ltb (signed_place m) (signed_place n)) refl
  where
    by_test : (b : Bool) → ltb (signed_place m) (signed_place n) ≡ b → IsGreater m n (cond b n m)
    by_test true e = let l = ltb-true (signed_place m) (signed_place n) e in
        record { one = inr refl; first = omega arith; second = omega arith }
    by_test false e = let l = ltb-false (signed_place m) (signed_place n) e in
        record { one = inl refl; first = omega arith; second = omega arith }

-- the greatest of a number and others
record IsGreatestFrom (best : ℕ) (ns : List ℕ) (most : ℕ) : Type 0 where
  place : ℕ
  within : place < length (best ∷ ns)
  number : most ≡ get_or (best ∷ ns) place 0
  above : (k : ℕ) → k < length (best ∷ ns) → signed_place (get_or (best ∷ ns) k 0) ≤ signed_place most

greatest_from-is : (best : ℕ) (ns : List ℕ) → IsGreatestFrom best ns (greatest_from best ns)
greatest_from-is best [] = record { place = 0; within = omega arith; number = refl; above = only }
  where
    only : (k : ℕ) → k < length (best ∷ []) → signed_place (get_or (best ∷ []) k 0) ≤ signed_place best
    only zero l = omega arith
    only (suc k) l = absurd (omega arith)
greatest_from-is best (n ∷ ns) = from_rest (greatest_from-is (signed_max best n) ns) (signed_max-greater best n)
  where
    from_rest : IsGreatestFrom (signed_max best n) ns (greatest_from (signed_max best n) ns)
        → IsGreater best n (signed_max best n)
        → IsGreatestFrom best (n ∷ ns) (greatest_from (signed_max best n) ns)
    from_rest rest pair = at_place rest.place rest.within rest.number
      where
        most : ℕ
        most = greatest_from (signed_max best n) ns

        above : (k : ℕ) → k < length (best ∷ n ∷ ns) → signed_place (get_or (best ∷ n ∷ ns) k 0) ≤ signed_place most
        above zero l = let r = rest.above 0 (omega arith) in omega (arith, pair.first, r)
        above (suc zero) l = let r = rest.above 0 (omega arith) in omega (arith, pair.second, r)
        above (suc (suc k)) l = rest.above (suc k) (omega arith)

        at_place : (k : ℕ) → k < length (signed_max best n ∷ ns) → most
            ≡ get_or (signed_max best n ∷ ns) k 0 → IsGreatestFrom best (n ∷ ns) most
        at_place zero l e = elim pair.one [
          | inl first ↦ record { place = 0; within = omega arith; number = e ∙ first; above = above }
          | inr second ↦ record { place = 1; within = omega arith; number = e ∙ second; above = above }
        ]
        at_place (suc k) l e = record { place = suc (suc k); within = omega arith; number = e; above = above }

place_order : (m n : ℕ) → m < 2 ^ 32 → n < 2 ^ 32 → signed_place m ≤ signed_place n
    → cast_signed w32 m ≤ℤ cast_signed w32 n
place_order m n lm ln l = grind (arith, ints)

pub signed_greatest-is : (ns : List ℕ) → AreWords ns → 0 < length ns → IsSignedGreatest ns (signed_greatest ns)
signed_greatest-is [] words some = absurd (omega arith)
signed_greatest-is (n ∷ ns) words some =
    let is = greatest_from-is n ns in
    let most = greatest_from n ns in
    let fits : most < 2 ^ 32 = let w = words.at is.place in omega (arith, is.number, w) in
    record {
      place = is.place;
      within = is.within;
      number = ap (cast_signed w32) is.number;
      above = λ k l. place_order (get_or (n ∷ ns) k 0) most (words.at k) fits (is.above k l);
    }

-- a paused part keeps its number
pub paused_keeps : (cs : List Condition) (f : Frame) (sum old : ℕ) → (outcome_of InValue f).paused
    ≡ true → (part_step (Grouped cs) f sum old).number ≡ old
paused_keeps cs f sum old e = ap (λ b. unwrap_or (cond b None (option_if (all_valid is_measured_if f
    (places f.conditions)) (greatest_number InValue f (places f.conditions)))) old) e

-- a reset of one part clears the hits of all
pub reset_clears : (parts : List PartContents) (truths : List Bool) (lefts sums : List ℕ)
    (old : ValueKept) → list_any (λ part. part.reset) (part_steps parts truths lefts old.hits sums
    old.numbers) ≡ true → (step parts truths lefts sums old).hits ≡ replicate (value_hits parts) 0
reset_clears parts truths lefts sums old e =
    let hits = flat_map (λ part. part.hits) (part_steps parts truths lefts old.hits sums old.numbers) in
    ap (λ b. cond b (replicate (length hits) 0) hits) e
    ∙ ap (λ n. replicate n 0) (length-hits_of parts truths lefts old.hits sums old.numbers)
