-- The lists of the pages when a cell moved, and when the first so many cells stand on them.
use Rattle.std.proofs.Common.{◌≡◌, ◌≢◌, ℕ, ◌+◌, ◌<◌, ◌⊎◌, inl, inr, Bool, List, [], length, get_or, set, replicate}
use Rattle.std.proofs.Common.{sym, ◌∙◌, ap, arith, length-set, slice_index}
use Rattle.std.proofs.lemmas.List.{get_or-set_same, get_or-set_other, length-replicate, get_or_default}
use Rattle.std.proofs.lemmas.Bool.{cases_eq}
use Rattle.ra_links.specs.Rows.{Rows, holder_of}
use Rattle.ra_memref.specs.Watches.{IsIndexed, AreWatched, first_page, pages_of}

-- what putting one cell on the list of a page leaves
pub record PutsCell (old new : Rows) (size cell place : ℕ) : Type 0 where
  pub stands : holder_of new.lists cell ≡ first_page size place
  pub others : (other : ℕ) → other ≢ cell → holder_of new.lists other ≡ holder_of old.lists other
  pub lists : length new.lists ≡ length old.lists
  pub nodes : new.nodes ≡ old.nodes

pub indexed_moved : (size : ℕ) (widths places : List ℕ) (marks marks' : List Bool)
    (pages pages' : Rows) (cell place : ℕ) → IsIndexed size widths places marks pages
    → cell < length places → length marks' ≡ length marks → PutsCell pages pages' size cell place
    → IsIndexed size widths (set places cell place) marks' pages'
indexed_moved size widths places marks marks' pages pages' cell place is below long puts = record {
  small = is.small;
  few = omega (arith, is.few, length-set places cell place);
  widths_too = is.widths_too ∙ sym (length-set places cell place);
  marks_too = long ∙ is.marks_too ∙ sym (length-set places cell place);
  wide = λ k within. is.wide k (omega (arith, within, length-set places cell place));
  lists = puts.lists ∙ is.lists;
  nodes = puts.nodes ∙ is.nodes ∙ sym (length-set places cell place);
  stands = λ k within. either k (omega (arith, within, length-set places cell place)) (cases_eq k cell);
}
  where
    either : (k : ℕ) → k < length places → (k ≡ cell) ⊎ (k ≡ cell → ⊥)
        → holder_of pages'.lists k ≡ first_page size (get_or (set places cell place) k 0)
    either k within (inl same) =
        let here : get_or (set places cell place) cell 0 ≡ place = get_or-set_same places cell place 0 below in
        rw (same, here) puts.stands
    either k within (inr apart) =
        let here : get_or (set places cell place) k 0 ≡ get_or places k 0 =
        get_or-set_other places cell k place 0 apart in
        rw here (puts.others k apart ∙ is.stands k within)

-- other marks, as many, leave what watches
pub rewatched : {size : ℕ} {widths places : List ℕ} {old new : List Bool} {pages : Rows} {order : List ℕ}
    → length new ≡ length old → AreWatched size widths places old pages order
    → AreWatched size widths places new pages order
rewatched long is = record {
  indexed = record {
    small = is.indexed.small;
    few = is.indexed.few;
    widths_too = is.indexed.widths_too;
    marks_too = long ∙ is.indexed.marks_too;
    wide = is.indexed.wide;
    lists = is.indexed.lists;
    nodes = is.indexed.nodes;
    stands = is.indexed.stands;
  };
  ordered = is.ordered;
}

-- the first n cells stand on the lists
pub record AreStanding (size : ℕ) (places : List ℕ) (pages : Rows) (n : ℕ) : Type 0 where
  pub lists : length pages.lists ≡ pages_of size
  pub nodes : pages.nodes ≡ length places
  pub stands : (k : ℕ) → k < n → holder_of pages.lists k ≡ first_page size (slice_index places k)

pub standing_more : (size : ℕ) (places : List ℕ) (old new : Rows) (n : ℕ)
    → AreStanding size places old n → PutsCell old new size n (slice_index places n)
    → AreStanding size places new (n + 1)
standing_more size places old new n before puts = record {
  lists = puts.lists ∙ before.lists;
  nodes = puts.nodes ∙ before.nodes;
  stands = λ k within. either k within (cases_eq k n);
}
  where
    either : (k : ℕ) → k < n + 1 → (k ≡ n) ⊎ (k ≡ n → ⊥)
        → holder_of new.lists k ≡ first_page size (slice_index places k)
    either k within (inl same) = rw same puts.stands
    either k within (inr apart) = puts.others k apart ∙ before.stands k (omega (arith, within, apart))

pub standing_none : (size : ℕ) (places : List ℕ) (pages : Rows) → pages
    ≡ record { lists = replicate (pages_of size) []; nodes = length places } → AreStanding size places pages 0
standing_none size places pages is = record {
  lists = ap (λ (r : Rows). length r.lists) is ∙ length-replicate (pages_of size) [];
  nodes = ap (λ (r : Rows). r.nodes) is;
  stands = λ k within. absurd (omega (arith, within));
}

-- what is read at a place that is there
pub read_at : (xs : List ℕ) (i n : ℕ) → i < length xs → n ≡ get_or xs i n → n ≡ slice_index xs i
read_at xs i n below e = e ∙ get_or_default xs i n 0 below
