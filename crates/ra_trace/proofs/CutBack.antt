-- What is written is cut into its records again.
use Rattle.std.proofs.Common.{◌≡◌, ℕ, zero, suc, ◌+◌, ◌<◌, ◌≤◌, ◌^◌, Bool, true, false, ap, sym, subst, refl, ◌∙◌}
use Rattle.std.proofs.Common.{arith, add-zero, append_assoc, length-append, le-ltb, le-leb, slice_set, None, Some, List}
use Rattle.std.proofs.Common.{[], ◌∷◌, ◌++◌, length, take, replicate, All}
use Rattle.std.specs.List.{flat_map, AllByRecursion as ByRecursion}
use Rattle.std.specs.Int.{w16, w32, to_le_bytes, from_le_bytes}
use Rattle.std.proofs.Math.Seq.{drop-append_seam, take-append_seam}
use Rattle.std.proofs.lemmas.Nat.{from_le_bytes-to_le_bytes_2, from_le_bytes-to_le_bytes_4}
use Rattle.std.proofs.lemmas.List.{get_or-replicate, set-get_or}
use Rattle.std.proofs.lemmas.List.Elements.{recursion_from_All}
use Rattle.std.proofs.lemmas.Grind.{flat_map-append}
use Rattle.ra_trace.specs.Entries.{Entry, Written, Framed, Saved, Restored, Shown, Ended, entry_bytes, header_bytes}
use Rattle.ra_trace.specs.Entries.{trace_bytes}
use Rattle.ra_trace.specs.Cutting.{Reached, Pieces, place_in, count_in, write_refusal, refusal, front, filled_after}
use Rattle.ra_trace.specs.Cutting.{with_entry, cut_behind, cut_unless, cut, header_size, trace_behind, trace_with}
use Rattle.ra_trace.specs.Rules.{Fits, TakesFilled, AllTakeFilled, whole_trace}

-- the fields of a write, and what stands behind them
place_read : (at n : ℕ) (behind : List ℕ) → at < 2 ^ 32
    → place_in (to_le_bytes w32 at ++ (to_le_bytes w16 n ++ behind)) ≡ at
place_read at n behind small = from_le_bytes-to_le_bytes_4 at small

count_read : (at n : ℕ) (behind : List ℕ) → n < 2 ^ 16
    → count_in (to_le_bytes w32 at ++ (to_le_bytes w16 n ++ behind)) ≡ n
count_read at n behind small = from_le_bytes-to_le_bytes_2 n small

-- a write of which all is there and that fits is not refused
write_by_rules : (size : ℕ) (rest : List ℕ) → 6 ≤ length rest → 6 + count_in rest ≤ length rest
    → place_in rest + count_in rest ≤ size → write_refusal size rest ≡ None
write_by_rules size rest long enough fits =
    rw (
      le-ltb (length rest) 6 long,
      le-ltb (length rest) (6 + count_in rest) enough,
      le-ltb size (place_in rest + count_in rest) fits,
    ) refl

-- a record that keeps the rules is not refused
none_refused : (size : ℕ) (filled : List Bool) (entry : Entry) (rest : List ℕ) → size ≤ 2 ^ 27
    → Fits size entry → TakesFilled filled entry → refusal size filled (entry_bytes entry ++ rest)
    ≡ None
none_refused size filled (Written at bytes) rest small fits taken =
    let long : 6 ≤ length ((to_le_bytes w32 at ++ (to_le_bytes w16 (length bytes) ++ bytes))
    ++ rest) = omega (arith, length-append bytes rest) in
    let here : place_in ((to_le_bytes w32 at ++ (to_le_bytes w16 (length bytes) ++ bytes)) ++ rest)
    ≡ at = place_read at (length bytes) (bytes ++ rest) (omega (arith, fits.0)) in
    let count : count_in ((to_le_bytes w32 at ++ (to_le_bytes w16 (length bytes) ++ bytes)) ++ rest)
    ≡ length bytes = count_read at (length bytes) (bytes ++ rest) (omega (arith, fits.1)) in
    write_by_rules size ((to_le_bytes w32 at ++ (to_le_bytes w16 (length bytes) ++ bytes)) ++ rest)
    long (omega (arith, length-append bytes rest, count)) (omega (arith, fits.0, here, count))
none_refused size filled Framed rest small fits taken = refl
none_refused size filled (Saved slot) rest small fits taken = rw (le-ltb 15 slot fits) refl
none_refused size filled (Restored slot) rest small fits taken = rw (le-ltb 15 slot fits, taken) refl
none_refused size filled Shown rest small fits taken = refl
none_refused size filled Ended rest small fits taken = absurd fits

-- the record is the one at the front
is_front : (size : ℕ) (entry : Entry) (rest : List ℕ) → size ≤ 2 ^ 27 → Fits size entry
    → front (entry_bytes entry ++ rest) ≡ entry
is_front size (Written at bytes) rest small fits =
    let here : place_in ((to_le_bytes w32 at ++ (to_le_bytes w16 (length bytes) ++ bytes)) ++ rest)
    ≡ at = place_read at (length bytes) (bytes ++ rest) (omega (arith, fits.0)) in
    let count : count_in ((to_le_bytes w32 at ++ (to_le_bytes w16 (length bytes) ++ bytes)) ++ rest)
    ≡ length bytes = count_read at (length bytes) (bytes ++ rest) (omega (arith, fits.1)) in
    let shown : take (count_in ((to_le_bytes w32 at ++ (to_le_bytes w16 (length bytes) ++ bytes))
    ++ rest)) (bytes ++ rest) ≡ bytes =
    ap (λ n. take n (bytes ++ rest)) count ∙ take-append_seam bytes rest in
    cc
is_front size Framed rest small fits = refl
is_front size (Saved slot) rest small fits = refl
is_front size (Restored slot) rest small fits = refl
is_front size Shown rest small fits = refl
is_front size Ended rest small fits = absurd fits

-- behind a record that is no end the records are cut on
cut_on : (size : ℕ) (next : List Bool → ℕ → List ℕ → Pieces) (entry : Entry) (filled : List Bool)
    (at : ℕ) (rest : List ℕ) → Fits size entry
    → cut_behind next entry filled at (entry_bytes entry ++ rest)
    ≡ with_entry entry (next (filled_after entry filled) (at + length (entry_bytes entry)) rest)
cut_on size next (Written at' bytes) filled at rest fits = rw drop-append_seam refl
cut_on size next Framed filled at rest fits = refl
cut_on size next (Saved slot) filled at rest fits = refl
cut_on size next (Restored slot) filled at rest fits = refl
cut_on size next Shown filled at rest fits = refl
cut_on size next Ended filled at rest fits = absurd fits

-- records are cut one after the other, up to the end record
records_cut : (more size : ℕ) (filled : List Bool) (at : ℕ) (entries : List Entry) (behind : List ℕ)
    → length entries < more → size ≤ 2 ^ 27 → ByRecursion (Fits size) entries
    → AllTakeFilled filled entries
    → cut more size filled at (flat_map entry_bytes entries ++ 69 ∷ behind) ≡ record
    { entries = entries ++ Ended ∷ []; stop = Reached (at + length (flat_map entry_bytes entries)) }
records_cut zero size filled at entries behind enough small fits taken = absurd (omega arith)
records_cut (suc more) size filled at [] behind enough small fits taken = rw add-zero refl
records_cut (suc more) size filled at (entry ∷ entries) behind enough small fits taken =
    let rest = flat_map entry_bytes entries ++ 69 ∷ behind in
    let split : (entry_bytes entry ++ flat_map entry_bytes entries) ++ 69 ∷ behind ≡ entry_bytes
    entry ++ rest = append_assoc (entry_bytes entry) (flat_map entry_bytes entries) (69 ∷ behind) in
    let good : refusal size filled (entry_bytes entry ++ rest) ≡ None =
    none_refused size filled entry rest small fits.0 taken.0 in
    let is : front (entry_bytes entry ++ rest) ≡ entry = is_front size entry rest small fits.0 in
    let on = cut_on size (cut more size) entry filled at rest fits.0 in
    let others = records_cut more size (filled_after entry filled)
    (at + length (entry_bytes entry)) entries behind (omega arith) small fits.1 taken.1 in
    let long : (at + length (entry_bytes entry)) + length (flat_map entry_bytes entries)
    ≡ at + length (entry_bytes entry ++ flat_map entry_bytes entries) =
    omega (arith, length-append (entry_bytes entry) (flat_map entry_bytes entries)) in
    ap (cut (suc more) size filled at) split
    ∙ ap (λ why. cut_unless (cut more size) why filled at (entry_bytes entry ++ rest)) good
    ∙ ap (λ entry'. cut_behind (cut more size) entry' filled at (entry_bytes entry ++ rest)) is
    ∙ on
    ∙ ap (with_entry entry) others
    ∙ ap (λ n. record { entries = entry ∷ (entries ++ Ended ∷ []); stop = Reached n }) long

-- the header is good, and gives the size
size_read : (size : ℕ) (rest : List ℕ) → size ≤ 2 ^ 27 → header_size (header_bytes size ++ rest) ≡ Some size
size_read size rest small =
    let read : from_le_bytes w32 (to_le_bytes w32 size) ≡ size = from_le_bytes-to_le_bytes_4 size (omega arith) in
    rw (le-leb 9 (length (header_bytes size ++ rest)) (omega arith), read, le-leb size (2 ^ 27) small) refl

-- each record takes a byte or more
no_more_records : (entries : List Entry) → length entries ≤ length (flat_map entry_bytes entries)
no_more_records [] = omega arith
no_more_records (Written at bytes ∷ entries) =
    omega (
      arith,
      no_more_records entries,
      length-append (entry_bytes (Written at bytes)) (flat_map entry_bytes entries),
    )
no_more_records (_ ∷ entries) = omega (arith, no_more_records entries)

-- a trace of records that keep the rules is cut into them, whatever stands behind its end record
pub trace_cut : (filled : List Bool) (size : ℕ) (entries : List Entry) (behind : List ℕ)
    → size ≤ 2 ^ 27 → All (Fits size) entries → AllTakeFilled filled entries
    → trace_with filled (trace_bytes size (entries ++ Ended ∷ []) ++ behind) ≡ whole_trace size entries
trace_cut filled size entries behind small fit taken =
    let parts = flat_map entry_bytes entries in
    let bytes = header_bytes size ++ (parts ++ 69 ∷ behind) in
    let split : flat_map entry_bytes (entries ++ Ended ∷ []) ++ behind ≡ parts ++ 69 ∷ behind
    = ap (λ front. front ++ behind) (flat_map-append entry_bytes entries (Ended ∷ []))
    ∙ append_assoc parts (69 ∷ []) behind in
    let enough : length entries < suc (length bytes) =
    omega (arith, no_more_records entries, length-append parts (69 ∷ behind)) in
    ap (λ rest. trace_with filled (header_bytes size ++ rest)) split
    ∙ ap (λ found. trace_behind filled found bytes) (size_read size (parts ++ 69 ∷ behind) small)
    ∙ ap (λ pieces. record { size = size; entries = pieces.entries; stop = pieces.stop })
    (records_cut (suc (length bytes)) size filled 9 entries behind enough small
    (recursion_from_All (Fits size) entries fit) taken)
    ∙ ap (λ n. record { size = size; entries = entries ++ Ended ∷ []; stop = Reached n }) (omega arith)

-- a slot stays filled where all are
filled_stay : (slot : ℕ) → slot ≤ 15 → slice_set (replicate 16 true) slot true ≡ replicate 16 true
filled_stay slot small =
    subst (λ b. slice_set (replicate 16 true) slot b ≡ replicate 16 true)
    (get_or-replicate 16 slot true false (omega arith)) (set-get_or (replicate 16 true) slot false)

-- where all slots are filled, every restore takes a filled one
pub all_take_filled : (size : ℕ) (entries : List Entry) → ByRecursion (Fits size) entries
    → AllTakeFilled (replicate 16 true) entries
all_take_filled size [] fit = tt
all_take_filled size (Written at bytes ∷ entries) fit = (tt, all_take_filled size entries fit.1)
all_take_filled size (Framed ∷ entries) fit = (tt, all_take_filled size entries fit.1)
all_take_filled size (Saved slot ∷ entries) fit = (
  tt,
  subst (λ filled. AllTakeFilled filled entries) (sym (filled_stay slot fit.0)) (all_take_filled size entries fit.1),
)
all_take_filled size (Restored slot ∷ entries) fit =
    (get_or-replicate 16 slot true false (omega (arith, fit.0)), all_take_filled size entries fit.1)
all_take_filled size (Shown ∷ entries) fit = (tt, all_take_filled size entries fit.1)
all_take_filled size (Ended ∷ entries) fit = absurd fit.0
