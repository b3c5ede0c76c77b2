-- The rows from each place back, where a row is added or filled.
use Rattle.std.proofs.Common.{◌≡◌, ℕ, zero, suc, ◌+◌, ◌-◌, ◌*◌, ◌<◌, ◌≤◌, Bool, false, List, [], ◌∷◌, ◌++◌, length}
use Rattle.std.proofs.Common.{take, drop, replicate, slice_index, inl, inr, refl, sym, ◌∙◌, ap, ap₂, subst, arith}
use Rattle.std.proofs.Common.{length-append, take-append-drop}
use Rattle.std.proofs.lemmas.List.{append-nil, drop_all, length-drop, length-take-le, drop-drop, take_at, take_all}
use Rattle.std.proofs.lemmas.List.{get_or_append_left}
use Rattle.std.proofs.lemmas.Bool.{cases_lt}
use Rattle.std.proofs.Math.Seq.{get_or-append_seam}
use Rattle.ra_explain.specs.RowLists.{RowsSeen, rows_from, with_row, refilled, behind_by, behind_each}

-- a place more
pub length_with : (behind : List (List (List Bool))) (row : List Bool) (before : ℕ)
    → length (with_row behind row before) ≡ length behind + 1
length_with behind row before = length-append behind ((row ∷ rows_from behind before) ∷ [])

-- the rows from the places that were there stay
pub rows_stay : (behind : List (List (List Bool))) (row : List Bool) (before place : ℕ)
    → place < length behind → rows_from (with_row behind row before) place ≡ rows_from behind place
rows_stay behind row before place within =
    get_or_append_left behind ((row ∷ rows_from behind before) ∷ []) [] place within

-- the rows from the new place back
pub rows_new : (behind : List (List (List Bool))) (row : List Bool) (before : ℕ)
    → rows_from (with_row behind row before) (length behind) ≡ row ∷ rows_from behind before
rows_new behind row before = get_or-append_seam behind (row ∷ rows_from behind before) [] []

-- a row that is filled behind it was added
pub refilled_is : (behind : List (List (List Bool))) (first row : List Bool) (before : ℕ)
    → refilled (with_row behind first before) row ≡ with_row behind row before
refilled_is behind first row before =
    let count : length (with_row behind first before) - 1 ≡ length behind =
    omega (arith, length_with behind first before) in
    ap₂ (λ xs ys. xs ++ (row ∷ drop 1 ys) ∷ [])
    (ap (λ n. take n (with_row behind first before)) count
    ∙ take_at behind ((first ∷ rows_from behind before) ∷ []) (length behind) refl)
    (ap (rows_from (with_row behind first before)) count ∙ rows_new behind first before)

-- there is a place for each row, and one before the first
pub length_behind : (width : ℕ) (known : List (List (List Bool))) (truths : List Bool)
    (links : List ℕ) → length (behind_by width known truths links) ≡ length known + length links
length_behind width known truths [] = omega arith
length_behind width known truths (before ∷ links) =
    let next = with_row known (take width truths) before in
    let more = length_behind width next (drop width truths) links in
    omega (arith, more, length_with known (take width truths) before)

-- a row more, behind a place
pub behind_more : (width : ℕ) (known : List (List (List Bool))) (truths row : List Bool)
    (links : List ℕ) (before : ℕ) → length truths ≡ length links * width → length row ≡ width
    → behind_by width known (truths ++ row) (links ++ before ∷ [])
    ≡ with_row (behind_by width known truths links) row before
behind_more width known [] row [] before long whole =
    ap (λ r. with_row known r before) (take_all width row (omega (arith, whole)))
behind_more width known (t ∷ truths) row [] before long whole = absurd (omega arith)
behind_more width known truths row (link ∷ links) before long whole =
    let enough : width ≤ length truths = omega arith in
    let rest : length (drop width truths) ≡ length links * width = omega (arith, length-drop width truths) in
    ap₂ (λ r rs. behind_by width (with_row known r link) rs (links ++ before ∷ []))
    (take_front width truths row enough) (drop_front width truths row enough)
    ∙ behind_more width (with_row known (take width truths) link) (drop width truths) row links before rest whole
  where
    take_front : (n : ℕ) (xs ys : List Bool) → n ≤ length xs → take n (xs ++ ys) ≡ take n xs
    take_front zero xs ys within = refl
    take_front (suc n) [] ys within = absurd (omega arith)
    take_front (suc n) (x ∷ xs) ys within = ap (λ zs. x ∷ zs) (take_front n xs ys (omega arith))

    drop_front : (n : ℕ) (xs ys : List Bool) → n ≤ length xs → drop n (xs ++ ys) ≡ drop n xs ++ ys
    drop_front zero xs ys within = refl
    drop_front (suc n) [] ys within = absurd (omega arith)
    drop_front (suc n) (x ∷ xs) ys within = drop_front n xs ys (omega arith)

-- the rows from the places that are known stay
pub known_stay : (width : ℕ) (known : List (List (List Bool))) (truths : List Bool) (links : List ℕ)
    (place : ℕ) → place < length known → rows_from (behind_by width known truths links) place
    ≡ rows_from known place
known_stay width known truths [] place within = refl
known_stay width known truths (before ∷ links) place within =
    known_stay width (with_row known (take width truths) before) (drop width truths) links place
    (omega (arith, within, length_with known (take width truths) before))
    ∙ rows_stay known (take width truths) before place within

-- the rows from the place of a row: this row, and the rows from the place before it
pub row_at_place : (width : ℕ) (known : List (List (List Bool))) (truths : List Bool)
    (links : List ℕ) (k : ℕ) → k < length links → slice_index links k < length known + k
    → rows_from (behind_by width known truths links) (length known + k) ≡ take width
    (drop (k * width) truths) ∷ rows_from (behind_by width known truths links) (slice_index links k)
row_at_place width known truths [] k within earlier = absurd (omega arith)
row_at_place width known truths (before ∷ links) zero within earlier =
    let next = with_row known (take width truths) before in
    let rest = drop width truths in
    let same : length known + 0 ≡ length known = omega arith in
    let below : before < length known = omega (arith, earlier) in
    let front : drop (0 * width) truths ≡ truths = let none : 0 * width ≡ 0 = omega arith in
    ap (λ n. drop n truths) none in
    ap (rows_from (behind_by width next rest links)) same
    ∙ known_stay width next rest links (length known) (omega (arith, length_with known (take width truths) before))
    ∙ rows_new known (take width truths) before
    ∙ ap (λ xs. take width xs ∷ rows_from known before) (sym front)
    ∙ ap (λ rs. take width (drop (0 * width) truths) ∷ rs) (sym (known_stay width next rest links
    before (omega (arith, below, length_with known (take width truths) before)) ∙ rows_stay known
    (take width truths) before before below))
row_at_place width known truths (before ∷ links) (suc k) within earlier =
    let next = with_row known (take width truths) before in
    let rest = drop width truths in
    let count = length_with known (take width truths) before in
    let there : length known + suc k ≡ length next + k = omega (arith, count) in
    let far : suc k * width ≡ width + k * width = omega arith in
    ap (rows_from (behind_by width next rest links)) there
    ∙ row_at_place width next rest links k (omega (arith, within)) (omega (arith, earlier, count))
    ∙ ap (λ xs. take width xs ∷ rows_from (behind_by width next rest links) (slice_index links k))
    (drop_more width k truths)
  where
    drop_more : (w k : ℕ) (xs : List Bool) → drop (k * w) (drop w xs) ≡ drop (suc k * w) xs
    drop_more w k xs = let far : w + k * w ≡ suc k * w = omega arith in drop-drop (k * w) w xs ∙ ap (λ n. drop n xs) far

-- one row more, behind a place that is there
pub record IsMore (width : ℕ) (truths : List Bool) (links : List ℕ) : Type 0 where
  pub whole : length truths ≡ length links * width
  pub earlier : (k : ℕ) → k < length links → slice_index links k ≤ k

pub one_more : (width : ℕ) (truths row : List Bool) (links : List ℕ) (before : ℕ)
    → IsMore width truths links → length row ≡ width → before ≤ length links
    → IsMore width (truths ++ row) (links ++ before ∷ [])
one_more width truths row links before is long there =
    let count : length (links ++ before ∷ []) ≡ length links + 1 = length-append links (before ∷ []) in
    record {
      whole = rw count (let far : (length links + 1) * width ≡ length links * width + width =
          omega arith in omega (arith, length-append truths row, is.whole, long, far));
      earlier = λ k within. elim (cases_lt k (length links)) [
        | inl below ↦ subst (λ n. n ≤ k) (sym (get_or_append_left links (before ∷ []) 0 k below)) (is.earlier k below)
        | inr past ↦ let here : k ≡ length links = omega (arith, within, count, past) in
            subst (λ n. slice_index (links ++ before ∷ []) n ≤ n) (sym here)
            (subst (λ n. n ≤ length links) (sym (get_or-append_seam links before [] 0)) there)
      ];
    }

-- a row in which nothing holds, as a resize puts it
pub resized : (truths : List Bool) (many long width : ℕ) → length truths ≡ many → long ≡ many
    → take (long + width) truths ++ replicate (long + width - many) false
    ≡ truths ++ replicate width false
resized truths many long width is same =
    let count : long + width - many ≡ width = omega (arith, same) in
    ap₂ (λ xs n. xs ++ replicate n false) (take_all (long + width) truths (omega (arith, is, same))) count

-- a row that is added and then filled
pub added_filled : (old added new : RowsSeen) (first row : List Bool) (before : ℕ) → added
    ≡ record old { behind = with_row old.behind first before } → new ≡ record added
    { behind = refilled added.behind row } → new
    ≡ record old { behind = with_row old.behind row before }
added_filled old added new first row before adds fills =
    fills ∙ ap (λ (a : RowsSeen). record { width = a.width; behind = refilled a.behind row }) adds
    ∙ ap (λ b. record { width = old.width; behind = b })
    (refilled_is old.behind first row before)

-- the last of some places
record EndsWith (xs : List ℕ) : Type 0 where
  pub front : List ℕ
  pub last : ℕ
  pub is : xs ≡ front ++ last ∷ []

ends_with : (x : ℕ) (xs : List ℕ) → EndsWith (x ∷ xs)
ends_with x [] = record { front = []; last = x; is = refl }
ends_with x (y ∷ xs) = let end = ends_with y xs in
    record { front = x ∷ end.front; last = end.last; is = ap (λ zs. x ∷ zs) end.is }

ends_some : (xs : List ℕ) → 0 < length xs → EndsWith xs
ends_some [] some = absurd (omega (arith, some))
ends_some (x ∷ xs) some = ends_with x xs

-- another row in the place of the last one
pub last_filled : (width : ℕ) (truths row : List Bool) (links : List ℕ) (from : ℕ) → length truths
    ≡ length links * width → 0 < length links → length row ≡ width → from ≡ length truths - width
    → behind_each width (take from truths ++ row) links ≡ refilled (behind_each width truths links) row
last_filled width truths row links from whole some long is =
    let end = ends_some links some in
    let count : length links ≡ length end.front + 1 = ap length end.is ∙ length-append end.front (end.last ∷ []) in
    let size : length truths ≡ length end.front * width + width =
    whole ∙ ap (λ n. n * width) count ∙ (let far : (length end.front + 1) * width
    ≡ length end.front * width + width = omega arith in far) in
    let front : length (take from truths) ≡ length end.front * width =
    length-take-le from truths (omega (arith, is))
    ∙ (let left : from ≡ length end.front * width = omega (arith, is, size) in left) in
    let behind : length (drop from truths) ≡ width = omega (arith, length-drop from truths, is, size) in
    let made = behind_more width ([] ∷ []) (take from truths) (drop from truths) end.front end.last front behind in
    let known = behind_by width ([] ∷ []) (take from truths) end.front in
    ap (behind_each width (take from truths ++ row)) end.is
    ∙ behind_more width ([] ∷ []) (take from truths) row end.front end.last front long
    ∙ sym (refilled_is known (drop from truths) row end.last)
    ∙ ap (λ b. refilled b row) (sym made ∙ ap₂ (behind_each width) (take-append-drop from truths) (sym end.is))

-- there is room for one of some rows
pub one_row : (width count : ℕ) → 0 < count → width ≤ count * width
one_row width zero some = absurd (omega (arith, some))
one_row width (suc count) some = let far : suc count * width ≡ count * width + width = omega arith in omega (arith, far)

-- a write to the end of a list
pub put_last : (xs ys row : List Bool) (from : ℕ) → xs ≡ ys
    → take from xs ++ (row ++ drop (length xs - from) (drop from xs)) ≡ take from ys ++ row
put_last xs ys row from same =
    ap (λ zs. take from xs ++ (row ++ zs))
    (drop_all (length xs - from) (drop from xs) (omega (arith, length-drop from xs)))
    ∙ ap₂ (λ zs rs. take from zs ++ rs) same (append-nil row)

-- how long the end of a list is
pub taken_long : (xs ys : List Bool) (from width : ℕ) → xs ≡ ys → from + width ≡ length ys
    → length (take (length xs - from) (drop from xs)) ≡ width
taken_long xs ys from width same is =
    let count : length xs ≡ length ys = ap length same in
    length-take-le (length xs - from) (drop from xs) (omega (arith, length-drop from xs))
    ∙ (let left : length xs - from ≡ width = omega (arith, count, is) in left)
