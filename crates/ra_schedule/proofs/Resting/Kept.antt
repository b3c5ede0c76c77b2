-- Conditions of a group that keep their hits, or count, one by one.
use Rattle.std.proofs.Common.{◌≡◌, ℕ, ◌+◌, ◌<◌, Bool, true, false, ◌&&◌, ◌||◌, ◌==◌, List, length}
use Rattle.std.proofs.Common.{slice_index, zero-add, refl, sym, ap, ◌∙◌, ◌⊎◌, inl, inr, arith}
use Rattle.std.proofs.lemmas.Bool.{false≢true, eqb-true}
use Rattle.std.proofs.lemmas.List.Folds.{list_all_at}
use Rattle.std.proofs.lemmas.List.FromFn.{length-range_with_len, get_or-range_with_len}
use Rattle.ra_condition.specs.declared.condition.Condition.{Condition}
use Rattle.ra_condition.specs.Chains.{places}
use Rattle.ra_condition.specs.Contents.{condition_at}
use Rattle.ra_group.specs.declared.form.Form.{Form}
use Rattle.ra_schedule.specs.Groups.{is_free, keeps_or_counts, all_keep}

pub kept_or_counted : (form : Form) (c : Condition) (h next : ℕ) → keeps_or_counts form c h next ≡ true
    → (next ≡ h) ⊎ ((is_free form c ≡ true) × (next ≡ h + 1))
kept_or_counted form c h next kept = by_test (next == h) (is_free form c) (next == h + 1) refl refl refl kept
  where
    by_test : (a b d : Bool) → (next == h) ≡ a → is_free form c ≡ b → (next == h + 1) ≡ d → (a || (b && d)) ≡ true
        → (next ≡ h) ⊎ ((is_free form c ≡ true) × (next ≡ h + 1))
    by_test true b d same free more e = inl (eqb-true next h same)
    by_test false true true same free more e = inr (free, eqb-true next (h + 1) more)
    by_test false true false same free more e = absurd (false≢true e)
    by_test false false d same free more e = absurd (false≢true e)

-- whether the condition at a place keeps its hits, or counts
abbrev pub keeps_at : Form → List Condition → (before after : List ℕ) → ℕ → Bool
keeps_at form cs before after j =
    keeps_or_counts form (condition_at cs j) (slice_index before j) (slice_index after j)

module _ (form : Form) (cs : List Condition) (before after : List ℕ) where
  pub keeps_not : (i : ℕ) → i < length cs → keeps_at form cs before after i ≡ false
      → all_keep form cs before after ≡ false
  keeps_not i l here =
      list_all_at (keeps_at form cs before after) (places cs) i 0 (omega (arith, length-range_with_len 0 (length cs)))
      (ap (keeps_at form cs before after) (get_or-range_with_len 0 (length cs) i 0 l ∙ zero-add i) ∙ here)

  pub keeps_place : all_keep form cs before after ≡ true → (j : ℕ) → j < length cs
      → keeps_at form cs before after j ≡ true
  keeps_place kept j l = by_test (keeps_at form cs before after j) refl
    where
      by_test : (b : Bool) → keeps_at form cs before after j ≡ b → keeps_at form cs before after j ≡ true
      by_test true e = e
      by_test false e = absurd (false≢true (sym (keeps_not j l e) ∙ kept))
