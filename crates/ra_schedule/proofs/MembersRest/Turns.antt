-- Those that are due, taken one after the other: what holds of all of them at the end.
use Rattle.std.proofs.Common.{◌≡◌, ◌⊎◌, inl, inr, ℕ, zero, suc, ◌+◌, ◌<◌, ◌≤◌, Bool, true, false, List, [], ◌∷◌, length}
use Rattle.std.proofs.Common.{slice_index_or, refl, sym, ◌∙◌, subst, arith}
use Rattle.std.proofs.lemmas.Bool.{cases_lt}
use Rattle.ra_memref.specs.Flags.{NoneSet}

-- what stands at a place
pub element : {A : Type 0} (xs : List A) (k : ℕ) → k < length xs → A
element [] k within = absurd (omega (arith, within))
element (x ∷ xs) zero within = x
element (x ∷ xs) (suc k) within = element xs k (omega (arith, within))

-- those in front of a place are gone through: who was due is done, and each other one is as it was
pub record AreTaken (A : Type 0) (due : List Bool) (before : ℕ → A) (Done : ℕ → A → Type 0)
    (after : ℕ → A) (at : ℕ) : Type 0 where
  pub done : (k : ℕ) → k < at → slice_index_or due k true ≡ true → Done k (after k)
  pub same : (k : ℕ) → ((at ≤ k) ⊎ (slice_index_or due k true ≡ false)) → after k ≡ before k

module _ (A : Type 0) (due : List Bool) (before : ℕ → A) (Done : ℕ → A → Type 0) where
  pub taken_begins : AreTaken A due before Done before 0
  taken_begins = record { done = λ k within is. absurd (omega (arith, within)); same = λ k either. refl }

  -- one more is taken
  pub taken_on : (after next : ℕ → A) (at place : ℕ) → AreTaken A due before Done after at
      → at ≤ place → slice_index_or due place true ≡ true → NoneSet due at place
      → Done place (next place) → ((k : ℕ) → (k ≡ place → ⊥) → next k ≡ after k)
      → AreTaken A due before Done next (place + 1)
  taken_on after next at place taken order here none done others = record {
    done = λ k within is. done_at k within is (cases_lt k place);
    same = λ k either. others k (other k either) ∙ taken.same k (still k either);
  }
    where
      is_not : (b : Bool) → b ≡ true → b ≡ false → ⊥
      is_not b set clear = let bad : true ≡ false = sym set ∙ clear in cc

      done_at : (k : ℕ) → k < place + 1 → slice_index_or due k true ≡ true → (k < place) ⊎ (place ≤ k) → Done k (next k)
      done_at k within is (inl early) = by_at (cases_lt k at)
        where
          by_at : (k < at) ⊎ (at ≤ k) → Done k (next k)
          by_at (inl first) =
              subst (Done k) (sym (others k (λ same. omega (arith, same, early)))) (taken.done k first is)
          by_at (inr late) = absurd (is_not (slice_index_or due k true) is (none k late early))
      done_at k within is (inr late) =
          let same : place ≡ k = omega (arith, within, late) in subst (λ n. Done n (next n)) same done

      other : (k : ℕ) → ((place + 1 ≤ k) ⊎ (slice_index_or due k true ≡ false)) → k ≡ place → ⊥
      other k (inl late) same = omega (arith, late, same)
      other k (inr quiet) same = is_not (slice_index_or due k true)
          (subst (λ n. slice_index_or due n true ≡ true) (sym same) here) quiet

      still : (k : ℕ) → ((place + 1 ≤ k) ⊎ (slice_index_or due k true ≡ false))
          → (at ≤ k) ⊎ (slice_index_or due k true ≡ false)
      still k (inl late) = inl (omega (arith, late, order))
      still k (inr quiet) = inr quiet

  -- at the end each is done, or was not due and is as it was
  pub taken_ends : (after : ℕ → A) (at count : ℕ) → AreTaken A due before Done after at
      → NoneSet due at count → (k : ℕ) → k < count
      → (Done k (after k)) ⊎ ((slice_index_or due k true ≡ false) × (after k ≡ before k))
  taken_ends after at count taken none k within = by_due (slice_index_or due k true) refl
    where
      by_due : (b : Bool) → slice_index_or due k true ≡ b → (Done k (after k))
          ⊎ ((slice_index_or due k true ≡ false) × (after k ≡ before k))
      by_due false quiet = inr (quiet, taken.same k (inr quiet))
      by_due true is = by_at (cases_lt k at)
        where
          by_at : (k < at) ⊎ (at ≤ k) → (Done k (after k))
              ⊎ ((slice_index_or due k true ≡ false) × (after k ≡ before k))
          by_at (inl early) = inl (taken.done k early is)
          by_at (inr late) = let bad : true ≡ false = sym is ∙ none k late within in absurd (cc)
