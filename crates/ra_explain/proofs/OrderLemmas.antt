-- Rows of a longer list in an order of their own.
use Rattle.std.proofs.Common.{◌≡◌, ℕ, zero, suc, ◌+◌, ◌*◌, ◌<◌, ◌≤◌, Bool, List, [], ◌∷◌, ◌++◌, length, map, take, drop}
use Rattle.std.proofs.Common.{reverse, get_or, refl, sym, ap, ap₂, subst, ◌∙◌, arith}
use Rattle.std.specs.List.{AllByRecursion, range_with_len}
use Rattle.std.proofs.Math.Seq.{take-add}
use Rattle.std.proofs.lemmas.Grind.{reverse_onto}
use Rattle.std.proofs.lemmas.List.{map-append, length-take-le, length-drop, drop-drop, take_at, drop_at}
use Rattle.std.proofs.lemmas.List.FromFn.{length-map-range_with_len}
use Rattle.ra_condition.specs.Contents.{TriggerContents, trigger_hits}
use Rattle.ra_explain.specs.Explains.{row_at as row_along}
use Rattle.ra_explain.specs.OrderedRows.{AreRows, LiesWithin, joined}
use Rattle.ra_explain.specs.RowLists.{row_at}
use Rattle.ra_explain.proofs.IndexLemmas.{all_more}

-- the last first
pub map_reverse : {X Y : Type 0} (f : X → Y) (xs : List X) → map f (reverse xs) ≡ reverse (map f xs)
map_reverse f [] = refl
map_reverse f (x ∷ xs) =
    ap (map f) (reverse_onto xs x []) ∙ map-append f (reverse xs) (x ∷ [])
    ∙ ap (λ ys. ys ++ f x ∷ []) (map_reverse f xs) ∙ sym (reverse_onto (map f xs) (f x) [])

pub all_reverse : (P : ℕ → Type 0) (xs : List ℕ) → AllByRecursion P xs → AllByRecursion P (reverse xs)
all_reverse P [] all = tt
all_reverse P (x ∷ xs) all = subst (AllByRecursion P) (sym (reverse_onto xs x []))
    (all_more P (reverse xs) x (all_reverse P xs all.1) all.0)

-- indices of rows that are there
pub all_within : (width count : ℕ) (truths : List Bool) (order : List ℕ) → length truths ≡ count * width
    → AllByRecursion (λ k. k < count) order → AllByRecursion (LiesWithin width truths) order
all_within width count truths [] whole all = tt
all_within width count truths (k ∷ order) whole all =
    let far : suc k * width ≡ k * width + width = omega arith in
    (omega (arith, whole, far, more (suc k) count all.0), all_within width count truths order whole all.1)
  where
    more : (n m : ℕ) → n ≤ m → n * width ≤ m * width
    more zero m is = omega arith
    more (suc n) zero is = absurd (omega (arith, is))
    more (suc n) (suc m) is =
        let one : suc n * width ≡ n * width + width = omega arith in
        let one_too : suc m * width ≡ m * width + width = omega arith in
        omega (arith, one, one_too, more n m (omega (arith, is)))

-- a row is as long as the width
pub long_row : (width : ℕ) (truths : List Bool) (k : ℕ) → LiesWithin width truths k
    → length (row_at width truths k) ≡ width
long_row width truths k within = length-take-le width (drop (k * width) truths)
    (omega (arith, length-drop (k * width) truths, within))

pub long_rows : (width : ℕ) (truths : List Bool) (order : List ℕ) → AllByRecursion (LiesWithin width truths) order
    → AllByRecursion (λ row. length row ≡ width) (map (row_at width truths) order)
long_rows width truths [] all = tt
long_rows width truths (k ∷ order) all = (long_row width truths k all.0, long_rows width truths order all.1)

-- the row at a place of rows that stand in one list
row_of_joined : (width : ℕ) (rows : List (List Bool)) (k : ℕ) → AllByRecursion (λ row. length row ≡ width) rows
    → k < length rows → take width (drop (k * width) (joined rows)) ≡ get_or rows k []
row_of_joined width [] k all within = absurd (omega (arith, within))
row_of_joined width (row ∷ rows) zero all within =
    let none : 0 * width ≡ 0 = omega arith in
    ap (λ n. take width (drop n (row ++ joined rows))) none ∙ take_at row (joined rows) width all.0
row_of_joined width (row ∷ rows) (suc k) all within =
    let far : suc k * width ≡ width + k * width = omega arith in
    ap (λ n. take width (drop n (row ++ joined rows))) far
    ∙ ap (take width) (sym (drop-drop (k * width) width (row ++ joined rows))
    ∙ ap (drop (k * width)) (drop_at row (joined rows) width all.0))
    ∙ row_of_joined width rows k all.1 (omega arith)

pub row_is : (t : TriggerContents) (last : ℕ) (rows : List (List Bool)) (k : ℕ) → AreRows t last rows → k ≤ last
    → get_or rows k [] ≡ row_along t (joined rows) k
row_is t last rows k are within = sym
    (row_of_joined (trigger_hits t) rows k are.width (omega (arith, are.count, within)))

-- all rows of a list, from one on
rows_from_on : (width from n : ℕ) (truths : List Bool)
    → joined (map (row_at width truths) (range_with_len from n)) ≡ take (n * width) (drop (from * width) truths)
rows_from_on width from zero truths = let none : 0 * width ≡ 0 = omega arith in
    ap (λ m. take m (drop (from * width) truths)) (sym none)
rows_from_on width from (suc n) truths =
    let far : suc n * width ≡ width + n * width = omega arith in
    let next : from * width + width ≡ (from + 1) * width = omega arith in
    ap (λ rest. row_at width truths from ++ rest)
    (rows_from_on width (from + 1) n truths
    ∙ ap (take (n * width)) (ap (λ m. drop m truths) (sym next) ∙ sym (drop-drop width (from * width) truths)))
    ∙ sym (take-add width (n * width) (drop (from * width) truths)) ∙ ap (λ m. take m (drop (from * width) truths))
    (sym far)

pub rows_all : (width n : ℕ) (truths : List Bool) → length truths ≡ n * width
    → joined (map (row_at width truths) (range_with_len 0 n)) ≡ truths
rows_all width n truths whole =
    let none : 0 * width ≡ 0 = omega arith in
    rows_from_on width 0 n truths ∙ ap₂ (λ m k. take m (drop k truths)) (sym whole) none ∙ take_length truths
  where
    take_length : (xs : List Bool) → take (length xs) xs ≡ xs
    take_length [] = refl
    take_length (x ∷ xs) = ap (λ ys. x ∷ ys) (take_length xs)

pub range_more : (from n last : ℕ) → from + n ≡ last → range_with_len from (suc n) ≡ range_with_len from n ++ last ∷ []
range_more from zero last is = let here : from ≡ last = omega (arith, is) in ap (λ k. k ∷ []) here
range_more from (suc n) last is = ap (λ ks. from ∷ ks) (range_more (from + 1) n last (omega (arith, is)))

pub all_below : (from n bound : ℕ) → from + n ≤ bound → AllByRecursion (λ k. k < bound) (range_with_len from n)
all_below from zero bound fits = tt
all_below from (suc n) bound fits = (omega (arith, fits), all_below (from + 1) n bound (omega (arith, fits)))

-- all rows of a list are those of a trigger
pub are_rows : (t : TriggerContents) (last width : ℕ) (truths : List Bool) → width ≡ trigger_hits t
    → length truths ≡ (last + 1) * width → AreRows t last (map (row_at width truths) (range_with_len 0 (last + 1)))
are_rows t last width truths is whole =
    let count = last + 1 in
    record {
      count = length-map-range_with_len (row_at width truths) 0 count;
      width = subst (λ n. AllByRecursion (λ row. length row ≡ n) (map (row_at width truths) (range_with_len 0 count)))
          is
          (long_rows width truths (range_with_len 0 count)
          (all_within width count truths (range_with_len 0 count) whole (all_below 0 count count (omega arith))));
    }
