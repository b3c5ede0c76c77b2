-- Cells that are gone through in order, of which those that a test names are marked, those side by side at once.
use Rattle.std.proofs.Common.{◌≡◌, ℕ, ◌+◌, ◌<◌, ◌≤◌, inl, inr, Bool, true, false, ◌||◌, List, length, get_or, ap}
use Rattle.std.proofs.Common.{refl, sym, ◌∙◌, arith}
use Rattle.std.proofs.lemmas.Bool.{cases_eq, cases_lt}
use Rattle.ra_memref.specs.Flags.{SetsBetween}

-- the cells before one are marked where they were, or where the test says so; the test names each from that one on and
-- before this cell, and these and all later ones are as before
pub record AreMarkedTo (old now : List Bool) (test : ℕ → Bool) (from cell : ℕ) : Type 0 where
  pub long : length now ≡ length old
  pub least : from ≤ cell
  pub before : (k : ℕ) → k < from → get_or now k true ≡ (get_or old k true || test k)
  pub named : (k : ℕ) → from ≤ k → k < cell → test k ≡ true
  pub later : (k : ℕ) → from ≤ k → get_or now k true ≡ get_or old k true

or_true : (b : Bool) → (b || true) ≡ true
or_true true = refl
or_true false = refl

or_false : (b : Bool) → (b || false) ≡ b
or_false true = refl
or_false false = refl

module _ {old now : List Bool} {test : ℕ → Bool} {from cell : ℕ} (are : AreMarkedTo old now test from cell) where
  -- a cell that the test names is marked with those before it
  pub named_too : test cell ≡ true → AreMarkedTo old now test from (cell + 1)
  named_too is = record {
    long = are.long;
    least = omega (arith, are.least);
    before = are.before;
    named = λ k low high. elim (cases_eq k cell) [
      | inl here ↦ ap test here ∙ is
      | inr apart ↦ are.named k low (omega (arith, high, apart))
    ];
    later = are.later;
  }

  -- once the named ones are marked, all cells before this one are marked where they were or the test says so
  pub marked_before_it : (new : List Bool) → SetsBetween from cell now new → (k : ℕ) → k < cell
      → get_or new k true ≡ (get_or old k true || test k)
  marked_before_it new sets k low = elim (cases_lt k from) [
    | inl less ↦ sets.before k less ∙ are.before k less
    | inr more ↦ sets.set_there k more low
        ∙ sym (ap (λ b. get_or old k true || b) (are.named k more low) ∙ or_true (get_or old k true))
  ]

  -- and one that the test does not name stays as it was
  pub passed_here : (new : List Bool) → SetsBetween from cell now new → test cell ≡ false
      → AreMarkedTo old new test (cell + 1) (cell + 1)
  passed_here new sets other = record {
    long = sets.long ∙ are.long;
    least = omega arith;
    before = λ k low. elim (cases_eq k cell) [
      | inl here ↦ ap (λ i. get_or new i true) here ∙ sets.after cell (omega arith) ∙ are.later cell are.least
          ∙ sym (ap (λ i. get_or old i true || test i) here ∙ ap (λ b. get_or old cell true || b) other
          ∙ or_false (get_or old cell true))
      | inr apart ↦ marked_before_it new sets k (omega (arith, low, apart))
    ];
    named = λ k low high. absurd (omega (arith, low, high));
    later = λ k high. sets.after k (omega (arith, high)) ∙ are.later k (omega (arith, high, are.least));
  }
