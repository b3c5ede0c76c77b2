-- The walk over the entries of a file with a layout: each lies before the closing sum.
use Rattle.std.proofs.Common.{◌≡◌, ℕ, zero, suc, ◌+◌, ◌-◌, ◌*◌, ◌<◌, ◌≤◌, Bool, false, List, length, refl, sym, ap, ◌∙◌}
use Rattle.std.proofs.Common.{arith, inl, inr}
use Rattle.std.proofs.lemmas.Bool.{cases_lt, lt-ltb, le-ltb}
use Rattle.std.specs.List.{list_any}
use Rattle.ra_text.specs.Words.{word_at}
use Rattle.ra_progress.specs.Layout.{Entry, need_from, up_to, entry_at, entry_after, entries_from, entry_count}
use Rattle.ra_progress.specs.Layout.{cell_count, prior_count, first_entry}
use Rattle.ra_progress.specs.Reading.{HasLayout}
use Rattle.ra_progress.proofs.Needs.{need_step}

-- a need that is met in the end is met on the way
met : (bytes : List ℕ) (need further : ℕ) → up_to bytes need further ≡ length bytes
    → (need ≤ length bytes) × (further ≡ length bytes)
met bytes need further whole = elim (cases_lt (length bytes) need) [
  | inl over ↦ let stopped : need ≡ length bytes = sym (rw (lt-ltb (length bytes) need over) refl)
      ∙ whole in absurd (omega arith)
  | inr fine ↦ (fine, sym (rw (le-ltb (length bytes) need fine) refl) ∙ whole)
]

-- So many entries are left from a place on, and fill the bytes up to the closing sum.
pub record IsWalk (bytes : List ℕ) (left at : ℕ) : Type 0 where
  pub within : at + 20 * left + 16 ≤ length bytes
  pub whole : need_from bytes left at (at + 20 * left + 16) ≡ length bytes

-- the next entry lies within the bytes, and the rest is a walk
pub walk_next : (bytes : List ℕ) (left at : ℕ) → 0 < left → IsWalk bytes left at
    → (entry_after bytes at + 16 ≤ length bytes) × IsWalk bytes (left - 1) (entry_after bytes at)
walk_next bytes left at some walk =
    let next = met bytes (at + 20 * left + 16 + word_at bytes (at + 16))
    (need_from bytes (left - 1) (entry_after bytes at) (at + 20 * left + 16 + word_at bytes
    (at + 16))) (sym (need_step bytes left at (at + 20 * left + 16) some) ∙ walk.whole) in
    let same : at + 20 * left + 16 + word_at bytes (at + 16)
    ≡ entry_after bytes at + 20 * (left - 1) + 16 = omega (arith, some) in (
      omega (arith, next.0, same),
      record {
        within = omega (arith, next.0, same);
        whole = ap (λ need. need_from bytes (left - 1) (entry_after bytes at) need) (sym same) ∙ next.1;
      },
    )

-- a file with a layout begins with a walk
pub walk_first : (bytes : List ℕ) → HasLayout bytes → IsWalk bytes (entry_count bytes) (first_entry bytes)
walk_first bytes layout =
    let a = met bytes 49 _ (sym layout.as_long) in
    let b = met bytes (53 + 20 * cell_count bytes) _ a.1 in
    let c = met bytes (57 + 20 * (cell_count bytes + prior_count bytes)) _ b.1 in
    let d = met bytes (57 + 20 * (cell_count bytes + prior_count bytes + entry_count bytes)) _ c.1 in
    let same : 57 + 20 * (cell_count bytes + prior_count bytes + entry_count bytes)
    ≡ first_entry bytes + 20 * entry_count bytes + 16 = omega arith in
    record {
      within = omega (arith, d.0, same);
      whole = ap (λ need. need_from bytes (entry_count bytes) (first_entry bytes) need) (sym same) ∙ d.1;
    }

-- one entry, and those behind it
pub any_step : (test : Entry → Bool) (bytes : List ℕ) (left at : ℕ) → 0 < left
    → test (entry_at bytes at) ≡ false → list_any test (entries_from bytes left at)
    ≡ list_any test (entries_from bytes (left - 1) (entry_after bytes at))
any_step test bytes zero at some not = absurd (omega arith)
any_step test bytes (suc more) at some not = let one : suc more - 1 ≡ more = omega arith in rw (one, not) refl
