-- Rows that are judged one by one.
use Rattle.std.proofs.Common.{◌≡◌, inl, inr, ℕ, ◌+◌, ◌<◌, ◌≤◌, ◌&&◌, Bool, true, false, List, [], length, map, take}
use Rattle.std.proofs.Common.{drop, get_or, set, slice_index_or, zero-add, sym, ap, ap₂, ◌∙◌, arith, length-drop}
use Rattle.std.specs.List.{list_all, range_with_len}
use Rattle.std.proofs.Math.Seq.{map-set_same}
use Rattle.std.proofs.lemmas.Bool.{cases_lt}
use Rattle.std.proofs.lemmas.List.{get_or-map, get_or-set_same, get_or-set_other, get_or-take, length-map, length-take}
use Rattle.std.proofs.lemmas.List.{take_all, take-map}
use Rattle.std.proofs.lemmas.List.Folds.{list_all_more}
use Rattle.std.proofs.lemmas.List.FromFn.{get_or-range_with_len, length-range_with_len}
use Rattle.ra_member.proofs.PutBackLemmas.{rest_next}
use Rattle.ra_schedule.specs.Counted.{CountsSeen, all_keep_by, counted, counted_rows}
use Rattle.ra_schedule.specs.Counts.{FitRows, JudgesRows, bit_rows, free_rows}
use Rattle.ra_schedule.proofs.MembersRest.SideBySideRows.{as_long, as_many, counted_next, same_at}
use Rattle.ra_schedule.proofs.Resting.Keeping.{and_left, and_right}

-- a row that is filled from the front holds at one place more
pub filled_next : (xs : List Bool) (f : ℕ → Bool) (place : ℕ) → place < length xs
    → ((k : ℕ) → k < place → get_or xs k false ≡ f k)
    → (k : ℕ) → k < place + 1 → get_or (set xs place (f place)) k false ≡ f k
filled_next xs f place within so_far k below =
    elim (cases_lt k place) [
      | inl l ↦ get_or-set_other xs place k (f place) false (λ same. omega (arith, l, same)) ∙ so_far k l
      | inr g ↦
          let here : k ≡ place = omega (arith, g, below) in
          ap (λ j. get_or (set xs place (f place)) j false) here
          ∙ get_or-set_same xs place (f place) false within ∙ ap f (sym here)
    ]

-- and so does a test of all numbers from 0 on
pub all_next : (p : ℕ → Bool) (n place : ℕ) (so_far here : Bool) → place < n → so_far
    ≡ list_all p (take place (range_with_len 0 n)) → here ≡ p place
    → (so_far && here) ≡ list_all p (take (place + 1) (range_with_len 0 n))
all_next p n place so_far here within is one =
    ap₂ (λ a b. a && b) is (one ∙ ap p (sym (get_or-range_with_len 0 n place 0 within ∙ zero-add place)))
    ∙ sym (list_all_more p (range_with_len 0 n) place 0 (omega (arith, within, length-range_with_len 0 n)))

module _ {X Y : Type 0} (row : X → List ℕ) (kept : Y → List ℕ) (rows : List X) (runs : List Y)
    (rows_long : map length (take (length runs) (map row rows)) ≡ map length (map kept runs)) where
  taken : map length (map row (take (length runs) rows)) ≡ map length (map kept runs)
  taken = ap (map length) (sym (take-map row (length runs) rows)) ∙ rows_long

  many : length (take (length runs) rows) ≡ length runs
  many = as_many row kept (take (length runs) rows) runs taken

  pub enough : length runs ≤ length rows
  enough = omega (arith, many, length-take (length runs) rows)

  -- a row is as long as what stands beside it
  pub row_long : (k : ℕ) (d : X) (e : Y) → k < length runs → length (row (get_or rows k d))
      ≡ length (kept (get_or runs k e))
  row_long k d e within =
      ap (λ x. length (row x)) (sym (get_or-take (length runs) rows k d within))
      ∙ as_long row kept (take (length runs) rows) runs k d e (omega (arith, within, many)) taken

  module _ (olds counts : List CountsSeen) (fit : FitRows olds (map kept runs)) (k : ℕ) (r : CountsSeen)
      (d : X) (e : Y) (within : k < length runs)
      (rest : drop k counts ≡ drop k olds) where
    abbrev bits : CountsSeen → List Bool
    bits c = c.counted

    abbrev free : CountsSeen → List Bool
    free c = c.free

    olds_many : length olds ≡ length runs
    olds_many = as_many bits kept olds runs fit.bits

    pub within_now : k < length counts
    within_now = omega (arith, within, olds_many, ap length rest, length-drop k counts, length-drop k olds)

    here : get_or counts k r ≡ get_or olds k r
    here = same_at counts olds k r rest

    pub free_long : length (free (get_or counts k r)) ≡ length (kept (get_or runs k e))
    free_long = ap (λ c. length (free c)) here
        ∙ as_long free kept olds runs k r e (omega (arith, within, olds_many)) fit.free

    pub bits_long : length (bits (get_or counts k r)) ≡ length (kept (get_or runs k e))
    bits_long = ap (λ c. length (bits c)) here
        ∙ as_long bits kept olds runs k r e (omega (arith, within, olds_many)) fit.bits

    module _ (new : CountsSeen) (same_free : new.free ≡ (get_or counts k r).free) (told : bits new
        ≡ counted (row (get_or rows k d)) (kept (get_or runs k e))) where
      pub next_free : free_rows counts ≡ free_rows olds → free_rows (set counts k new) ≡ free_rows olds
      next_free so_far = map-set_same free counts k new r same_free ∙ so_far

      pub next_bits : bit_rows (take k counts) ≡ counted_rows (map row (take k rows)) (map kept (take k runs))
          → bit_rows (take (k + 1) (set counts k new))
          ≡ counted_rows (map row (take (k + 1) rows)) (map kept (take (k + 1) runs))
      next_bits so_far = counted_next row kept bits rows runs counts k d e
          (omega (arith, within, enough)) within within_now new told so_far

      pub next_rest : drop (k + 1) (set counts k new) ≡ drop (k + 1) olds
      next_rest = rest_next k olds counts r (omega (arith, within, olds_many)) within_now rest new

    -- whether the rows so far passed, and the next one
    pub next_keep : (keeps result : Bool) → result
        ≡ all_keep_by (free (get_or counts k r)) (row (get_or rows k d)) (kept (get_or runs k e))
        → (keeps ≡ true → (j : ℕ) → j < k → all_keep_by (slice_index_or (free_rows olds) j [])
        (slice_index_or (map row rows) j []) (slice_index_or (map kept runs) j []) ≡ true)
        → (keeps && result) ≡ true
        → (j : ℕ) → j < k + 1 → all_keep_by (slice_index_or (free_rows olds) j [])
        (slice_index_or (map row rows) j []) (slice_index_or (map kept runs) j []) ≡ true
    next_keep keeps result says so_far both j below =
        elim (cases_lt j k) [
          | inl l ↦ so_far (and_left keeps result both) j l
          | inr g ↦
              let same : j ≡ k = omega (arith, g, below) in
              ap (λ i. all_keep_by (slice_index_or (free_rows olds) i [])
              (slice_index_or (map row rows) i []) (slice_index_or (map kept runs) i [])) same
              ∙ (λ i. all_keep_by (get_or-map free olds k r [] (omega (arith, within, olds_many)) i)
              (get_or-map row rows k d [] (omega (arith, within, enough)) i)
              (get_or-map kept runs k e [] within i))
              ∙ ap (λ c. all_keep_by (free c) (row (get_or rows k d)) (kept (get_or runs k e))) (sym here)
              ∙ sym says ∙ and_right keeps result both
        ]

  -- all rows are judged
  module _ (olds counts : List CountsSeen) (fit : FitRows olds (map kept runs)) (k : ℕ) (keeps : Bool)
      (over : length runs ≤ k) (within : k ≤ length runs) where
    pub judged_rows : free_rows counts ≡ free_rows olds → bit_rows (take k counts)
        ≡ counted_rows (map row (take k rows)) (map kept (take k runs))
        → (keeps ≡ true → (j : ℕ) → j < k → all_keep_by (slice_index_or (free_rows olds) j [])
        (slice_index_or (map row rows) j []) (slice_index_or (map kept runs) j []) ≡ true)
        → drop k counts ≡ drop k olds → JudgesRows olds counts (take (length runs) (map row rows)) (map kept runs) keeps
    judged_rows free_same bits_so_far keep_so_far rest =
        let end : k ≡ length runs = omega (arith, over, within) in
        let many_counts : length counts ≡ length runs =
        sym (length-map counts (λ (c : CountsSeen). c.free)) ∙ ap length free_same
        ∙ length-map olds (λ (c : CountsSeen). c.free)
        ∙ as_many (λ (c : CountsSeen). c.counted) kept olds runs fit.bits in
        record {
          free = free_same;
          bits =
              sym (ap bit_rows (take_all k counts (omega (arith, end, many_counts))))
              ∙ bits_so_far
              ∙ ap₂ counted_rows (sym (take-map row k rows) ∙ ap (λ n. take n (map row rows)) end)
              (ap (map kept) (take_all k runs over));
          keep = λ holds j below.
              ap (λ xs. all_keep_by (slice_index_or (free_rows olds) j []) xs (slice_index_or (map kept runs) j []))
              (get_or-take (length runs) (map row rows) j [] (omega (arith, below, length-map runs kept)))
              ∙ keep_so_far holds j (omega (arith, below, end, length-map runs kept));
        }
