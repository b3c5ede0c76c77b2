-- The indices of the rows from a place back, one place further.
use Rattle.std.proofs.Common.{◌≡◌, ℕ, suc, ◌+◌, ◌-◌, ◌<◌, ◌≤◌, Bool, List, [], ◌∷◌, ◌++◌, length, map, slice_index, sym}
use Rattle.std.proofs.Common.{◌∙◌, ap, arith, append_assoc}
use Rattle.std.specs.List.{AllByRecursion}
use Rattle.std.proofs.lemmas.List.{append-nil, map-append}
use Rattle.ra_explain.specs.RowLists.{rows_from, behind_each, row_at, AreEarlier}
use Rattle.ra_explain.proofs.RowLemmas.{row_at_place, known_stay}

-- what holds of all and of one more
pub all_more : (P : ℕ → Type 0) (xs : List ℕ) (x : ℕ) → AllByRecursion P xs → P x → AllByRecursion P (xs ++ x ∷ [])
all_more P [] x all here = (here, tt)
all_more P (y ∷ xs) x all here = (all.0, all_more P xs x all.1 here)

-- what holds of all holds of the last
pub all_last : (P : ℕ → Type 0) (xs : List ℕ) (x : ℕ) → AllByRecursion P (xs ++ x ∷ []) → P x
all_last P [] x all = all.0
all_last P (y ∷ xs) x all = all_last P xs x all.1

pub all_front : (P : ℕ → Type 0) (xs : List ℕ) (x : ℕ) → AllByRecursion P (xs ++ x ∷ []) → AllByRecursion P xs
all_front P [] x all = tt
all_front P (y ∷ xs) x all = (all.0, all_front P xs x all.1)

-- the rows from a place back are the row before it, and the rows from the place that this one comes behind
pub one_back : (width : ℕ) (truths : List Bool) (links indices : List ℕ) (at : ℕ) → AreEarlier links
    → 0 < at → at ≤ length links
    → map (row_at width truths) (indices ++ (at - 1) ∷ [])
    ++ rows_from (behind_each width truths links) (slice_index links (at - 1))
    ≡ map (row_at width truths) indices ++ rows_from (behind_each width truths links) at
one_back width truths links indices at earlier some within =
    let rows = behind_each width truths links in
    let here : 1 + (at - 1) ≡ at = omega arith in
    let below : at - 1 < length links = omega arith in
    ap (λ xs. xs ++ rows_from rows (slice_index links (at - 1)))
    (map-append (row_at width truths) indices ((at - 1) ∷ []))
    ∙ append_assoc (map (row_at width truths) indices) (row_at width truths (at - 1) ∷ [])
    (rows_from rows (slice_index links (at - 1)))
    ∙ ap (λ xs. map (row_at width truths) indices ++ xs)
    (sym (row_at_place width ([] ∷ []) truths links (at - 1) below (let e =
    earlier (at - 1) below in omega (arith, e))) ∙ ap (rows_from rows) here)

-- at the first place there are no rows left
pub none_back : (width : ℕ) (truths : List Bool) (links indices : List ℕ) (at : ℕ) → at ≡ 0
    → map (row_at width truths) indices
    ≡ map (row_at width truths) indices ++ rows_from (behind_each width truths links) at
none_back width truths links indices at first =
    sym (append-nil (map (row_at width truths) indices))
    ∙ ap (λ xs. map (row_at width truths) indices ++ xs) (sym (ap (rows_from (behind_each width
    truths links)) first ∙ known_stay width ([] ∷ []) truths links 0 (omega arith)))

-- a row fewer from the place that the row before a place comes behind
pub one_fewer : (width : ℕ) (truths : List Bool) (links : List ℕ) (at : ℕ) → AreEarlier links
    → 0 < at → at ≤ length links
    → length (rows_from (behind_each width truths links) at)
    ≡ length (rows_from (behind_each width truths links) (slice_index links (at - 1))) + 1
one_fewer width truths links at earlier some within =
    let rows = behind_each width truths links in
    let here : 1 + (at - 1) ≡ at = omega arith in
    let below : at - 1 < length links = omega arith in
    let one : length (rows_from rows (1 + (at - 1)))
    ≡ suc (length (rows_from rows (slice_index links (at - 1)))) = ap length (row_at_place width
    ([] ∷ []) truths links (at - 1) below (let e = earlier (at - 1) below in omega (arith, e))) in
    omega (arith, ap (λ n. length (rows_from rows n)) here, one)

-- at the first place there are none
pub none_first : (width : ℕ) (truths : List Bool) (links : List ℕ) → rows_from (behind_each width truths links) 0 ≡ []
none_first width truths links = known_stay width ([] ∷ []) truths links 0 (omega arith)
