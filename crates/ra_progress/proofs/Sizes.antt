-- Whether entries have the lengths of the own ones.
use Rattle.std.proofs.Common.{◌≡◌, ℕ, zero, suc, ◌+◌, ◌-◌, ◌<◌, ◌≤◌, ◌==◌, ◌&&◌, true, false, List, [], ◌∷◌, length}
use Rattle.std.proofs.Common.{drop, refl, arith, drop-cons}
use Rattle.std.proofs.lemmas.List.{drop_all}
use Rattle.ra_progress.specs.Contents.{Own, own_at}
use Rattle.ra_text.specs.Words.{word_at}
use Rattle.ra_progress.specs.Layout.{Entry, own_length, entry_after, entry_at, entries_from}
use Rattle.ra_progress.specs.Reading.{have_sizes}

-- as many entries as are counted
pub entries_count : (bytes : List ℕ) (count at : ℕ) → length (entries_from bytes count at) ≡ count
entries_count bytes zero at = refl
entries_count bytes (suc more) at = let rest = entries_count bytes more (entry_after bytes at) in omega (arith, rest)

-- entries of another count have not these lengths
pub sizes_count : (owns : List Own) (entries : List Entry) → (length entries ≡ length owns → ⊥)
    → have_sizes owns entries ≡ false
sizes_count [] [] other = absurd (other refl)
sizes_count [] (entry ∷ entries) other = refl
sizes_count (own ∷ owns) [] other = refl
sizes_count (own ∷ owns) (entry ∷ entries) other =
    elim (entry.size == own_length own) as (λ b. (b && have_sizes owns entries) ≡ false) [
      | true ↦ sizes_count owns entries (λ same. other (omega (arith, same)))
      | false ↦ refl
    ]

-- the entries that are left, one by one
pub entries_step : (bytes : List ℕ) (left at : ℕ) → 0 < left → entries_from bytes left at
    ≡ entry_at bytes at ∷ entries_from bytes (left - 1) (entry_after bytes at)
entries_step bytes zero at some = absurd (omega (arith, some))
entries_step bytes (suc more) at some = let one : suc more - 1 ≡ more = omega arith in rw one refl

-- one entry beside an own one, and those behind them
pub sizes_step : (bytes : List ℕ) (owns : List Own) (number at : ℕ) → number < length owns
    → have_sizes (drop number owns) (entries_from bytes (length owns - number) at)
    ≡ ((word_at bytes (at + 16) == own_length (own_at owns number)) && have_sizes (drop
    (number + 1) owns) (entries_from bytes (length owns - (number + 1)) (entry_after bytes at)))
sizes_step bytes owns number at below =
    let one : length owns - number - 1 ≡ length owns - (number + 1) = omega arith in
    let more : suc number ≡ number + 1 = omega arith in
    rw (
      entries_step bytes (length owns - number) at (omega (arith, below)),
      drop-cons owns number (own_at [] 0) below,
      one,
      ← more,
    ) refl

-- where the own ones end, none is left
pub sizes_end : (bytes : List ℕ) (owns : List Own) (number at : ℕ) → length owns ≤ number
    → have_sizes (drop number owns) (entries_from bytes (length owns - number) at) ≡ true
sizes_end bytes owns number at over =
    let none : length owns - number ≡ 0 = omega (arith, over) in
    rw (none, drop_all number owns over) refl
