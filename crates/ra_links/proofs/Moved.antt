-- Rows in front of the first one with a number are empty, and the others are those of entries that are moved.
use Rattle.std.proofs.Common.{◌≡◌, ℕ, zero, suc, ◌+◌, ◌-◌, ◌<◌, ◌≤◌, inl, inr, List, [], ◌∷◌, ◌++◌, length, map}
use Rattle.std.proofs.Common.{replicate}
use Rattle.std.proofs.Common.{refl, sym, ap, ap₂, ◌∙◌, arith}
use Rattle.std.proofs.lemmas.Bool.Decides.{eqb_tells}
use Rattle.std.proofs.lemmas.List.{get_or-map, length-map}
use Rattle.ra_links.specs.declared.entry.Entry.{Entry}
use Rattle.ra_links.specs.FlatRows.{AreOnRows, numbers_on, rows_by, rows_from}
use Rattle.ra_links.specs.LateRows.{AreFrom, moved_by}
use Rattle.ra_links.proofs.Entries.{on_here, on_other}

-- the entries after the first one are for these rows too
from_rest : (first : ℕ) (entry : Entry) (entries : List Entry) → AreFrom first (entry ∷ entries) → AreFrom first entries
from_rest first entry entries from = λ k below. from (suc k) (omega (arith, below))

-- no entry is for a row in front of these
none_on : (first : ℕ) (entries : List Entry) → AreFrom first entries → (row : ℕ) → row < first
    → numbers_on row entries ≡ []
none_on first [] from row less = refl
none_on first (entry ∷ entries) from row less =
    on_other entry entries row (λ same. omega (arith, from 0 (omega arith), same, less))
    ∙ none_on first entries (from_rest first entry entries from) row less

-- a row has the numbers of the row that is moved there
on_moved : (first : ℕ) (entries : List Entry) → AreFrom first entries → (row : ℕ)
    → numbers_on (first + row) entries ≡ numbers_on row (map (moved_by first) entries)
on_moved first [] from row = refl
on_moved first (entry ∷ entries) from row =
    let rest = on_moved first entries (from_rest first entry entries from) row in
    let at : first ≤ entry.row = from 0 (omega arith) in
    elim (eqb_tells entry.row (first + row)) [
      | inl e ↦
          on_here entry entries (first + row) e.1
          ∙ ap (λ ns. entry.number ∷ ns) rest
          ∙ sym (on_here (moved_by first entry) (map (moved_by first) entries) row (omega (arith, e.1)))
      | inr n ↦
          on_other entry entries (first + row) n.1
          ∙ rest
          ∙ sym (on_other (moved_by first entry) (map (moved_by first) entries) row
          (λ same. n.1 (omega (arith, same, at))))
    ]

-- rows from one on are those of moved entries
rows_moved : (first : ℕ) (entries : List Entry) → AreFrom first entries → (row count : ℕ)
    → rows_from (first + row) count entries ≡ rows_from row count (map (moved_by first) entries)
rows_moved first entries from row zero = refl
rows_moved first entries from row (suc count) =
    let next : suc (first + row) ≡ first + suc row = omega arith in
    ap₂ (λ ns rows. ns ∷ rows) (on_moved first entries from row)
    (ap (λ n. rows_from n count entries) next ∙ rows_moved first entries from (suc row) count)

-- rows from one on, of which the first so many are empty
rows_empty : (first : ℕ) (entries : List Entry) → AreFrom first entries → (row empty count : ℕ) → row + empty ≡ first
    → rows_from row (empty + count) entries ≡ replicate empty [] ++ rows_from first count entries
rows_empty first entries from row zero count is =
    ap₂ (λ n m. rows_from n m entries) (omega (arith, is)) (omega arith)
rows_empty first entries from row (suc empty) count is =
    let more : suc empty + count ≡ suc (empty + count) = omega arith in
    ap (λ n. rows_from row n entries) more
    ∙ ap₂ (λ ns rows. ns ∷ rows) (none_on first entries from row (omega (arith, is)))
    (rows_empty first entries from (suc row) empty count (omega (arith, is)))

pub rows_late : (rows first : ℕ) (entries : List Entry) → AreFrom first entries → first ≤ rows
    → replicate first [] ++ rows_by (rows - first) (map (moved_by first) entries) ≡ rows_by rows entries
rows_late rows first entries from most =
    let whole : first + (rows - first) ≡ rows = omega (arith, most) in
    let none : first + 0 ≡ first = omega arith in
    ap (λ rs. replicate first [] ++ rs) (sym (rows_moved first entries from 0 (rows - first))
    ∙ ap (λ n. rows_from n (rows - first) entries) none)
    ∙ sym (rows_empty first entries from 0 first (rows - first) (omega arith))
    ∙ ap (λ n. rows_from 0 n entries) whole

-- moved entries are on the rows that are left
pub moved_on : (rows first : ℕ) (entries : List Entry) → AreFrom first entries → AreOnRows rows entries
    → AreOnRows (rows - first) (map (moved_by first) entries)
moved_on rows first entries from on = λ k below.
    let inside : k < length entries = omega (arith, below, length-map entries (moved_by first)) in
    let at = get_or-map (moved_by first) entries k (record { row = 0; number = 0 }) (record { row = 0; number = 0 })
    inside in
    omega (arith, ap (λ (e : Entry). e.row) at, from k inside, on k inside)
