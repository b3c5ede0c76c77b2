-- Cells that are marked together, of which those that stay unmarked are taken out one by one.
use Rattle.std.proofs.Common.{◌≡◌, ℕ, ◌+◌, ◌<◌, ◌≤◌, inl, inr, Bool, true, false, ◌||◌, List, length, get_or, set, ap}
use Rattle.std.proofs.Common.{sym, ◌∙◌, arith}
use Rattle.std.proofs.lemmas.List.{get_or-set_same, get_or-set_other}
use Rattle.std.proofs.lemmas.Bool.{cases_eq, cases_lt}
use Rattle.ra_memref.specs.Watches.{marked_by}
use Rattle.ra_memref.proofs.MarkLemmas.{length-marked_by, marked_after, marked_before}

-- a cell of the same own mark is marked as before
same_mark : (from : ℕ) (old now : List Bool) (k : ℕ) → get_or now k true ≡ get_or old k true
    → get_or (marked_by from now) k true ≡ get_or (marked_by from old) k true
same_mark from old now k is = elim (cases_lt k from) [
  | inl less ↦ marked_before from now k less ∙ is ∙ sym (marked_before from old k less)
  | inr more ↦ marked_after from now k more ∙ sym (marked_after from old k more)
]

-- the cells before this one are marked where they were, or where the test says so, by the cell from which on all are
-- marked; the others have their own marks still
pub record AreTogether (from : ℕ) (old now : List Bool) (test : ℕ → Bool) (together cell : ℕ) : Type 0 where
  pub long : length now ≡ length old
  pub least : together ≤ cell
  pub before : (k : ℕ) → k < cell
      → get_or (marked_by together now) k true ≡ (get_or (marked_by from old) k true || test k)
  pub behind : (k : ℕ) → cell ≤ k → get_or now k true ≡ get_or old k true

module _ {from : ℕ} {old now : List Bool} {test : ℕ → Bool} {together cell : ℕ}
    (are : AreTogether from old now test together cell) where
  was : get_or (marked_by from old) cell true ≡ get_or (marked_by from now) cell true
  was = sym (same_mark from old now cell (are.behind cell (omega arith)))

  -- a cell that is marked stays with the others
  pub stays_together : (get_or (marked_by from now) cell true || test cell) ≡ true
      → AreTogether from old now test together (cell + 1)
  stays_together marked = record {
    long = are.long;
    least = omega (arith, are.least);
    before = λ k low. elim (cases_eq k cell) [
      | inl here ↦ marked_after together now k (omega (arith, here, are.least)) ∙ sym marked
          ∙ ap (λ b. b || test cell) (sym was) ∙ ap (λ i. get_or (marked_by from old) i true || test i) (sym here)
      | inr apart ↦ are.before k (omega (arith, low, apart))
    ];
    behind = λ k high. are.behind k (omega (arith, high));
  }

  -- and one that is not is taken out
  pub taken_out : (next : List Bool) → cell < length old
      → (get_or (marked_by from now) cell true || test cell) ≡ false → length next ≡ length now
      → marked_by (cell + 1) next ≡ set (marked_by together now) cell false
      → ((k : ℕ) → cell < k → get_or next k true ≡ get_or now k true)
      → AreTogether from old next test (cell + 1) (cell + 1)
  taken_out next below unmarked long is later = record {
    long = long ∙ are.long;
    least = omega arith;
    before = λ k low. ap (λ ms. get_or ms k true) is ∙ elim (cases_eq k cell) [
      | inl here ↦ ap (λ i. get_or (set (marked_by together now) cell false) i true) here
          ∙ get_or-set_same (marked_by together now) cell false true
          (omega (arith, below, are.long, length-marked_by together now)) ∙ sym unmarked
          ∙ ap (λ b. b || test cell) (sym was) ∙ ap (λ i. get_or (marked_by from old) i true || test i) (sym here)
      | inr apart ↦ get_or-set_other (marked_by together now) cell k false true apart
          ∙ are.before k (omega (arith, low, apart))
    ];
    behind = λ k high. later k (omega (arith, high)) ∙ are.behind k (omega (arith, high));
  }
