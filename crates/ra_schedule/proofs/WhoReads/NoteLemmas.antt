-- Entries to which one more is put.
use Rattle.std.proofs.Common.{◌≡◌, ◌≢◌, ℕ, zero, suc, ◌+◌, ◌-◌, ◌<◌, inl, inr, map, rules, true, Option, None, Some}
use Rattle.std.proofs.Common.{List, [], ◌∷◌, ◌++◌, length, get_or, set, slice_get, replicate, refl, sym, ap, ◌∙◌}
use Rattle.std.proofs.Common.{subst, arith, length-append, length-set}
use Rattle.std.proofs.lemmas.List.{append-nil, map-append, map-set, get_or-set_same, get_or-set_other}
use Rattle.std.proofs.lemmas.List.{get_or_append_left, get_or_push, length-replicate}
use Rattle.std.specs.Option.{unwrap_or}
use Rattle.std.proofs.lemmas.Bool.{cases_eq}
use Rattle.std.proofs.lemmas.Option.{get_or_from_slice_get, slice_get-get_or, slice_get_within}
use Rattle.ra_links.specs.declared.entry.Entry.{Entry}
use Rattle.ra_links.specs.FlatRows.{AreOnRows, numbers_on, rows_by, rows_from}
use Rattle.ra_links.proofs.Cuts.{length-rows_by, on_row, row-rows_by}
use Rattle.ra_links.proofs.Entries.{on_here, on_other}
use Rattle.ra_links.proofs.Listed.{each_both, each_one, is_here, listed_here, listed_in, listed_new, listed_old}
use Rattle.ra_links.proofs.Listed.{number_of_one, on_both}
use Rattle.ra_indirect.proofs.PoolLemmas.{below_or_last}
use Rattle.ra_schedule.specs.Noted.{AreNoted, last_of, noted_seen, reader_of}
use Rattle.ra_schedule.specs.Readers.{IsLast, IsListed, AreWithin, Notes, ReadersSeen, Reads}
use Rattle.ra_schedule.proofs.WhoReads.Rows.{reads_within}

-- without entries no row has a number
pub rows_none : (first count : ℕ) → rows_from first count [] ≡ replicate count []
rows_none first zero = refl
rows_none first (suc count) = ap (λ rows. [] ∷ rows) (rows_none (suc first) count)

-- a row more goes last
rows_last : (first count : ℕ) (entries : List Entry)
    → rows_from first (suc count) entries ≡ rows_from first count entries ++ numbers_on (first + count) entries ∷ []
rows_last first zero entries = ap (λ n. numbers_on n entries ∷ []) (omega arith)
rows_last first (suc count) entries =
    ap (λ rows. numbers_on first entries ∷ rows) (rows_last (suc first) count entries
    ∙ ap (λ n. rows_from (suc first) count entries ++ numbers_on n entries ∷ []) (omega arith))

-- no entry puts a number on a row that is none of theirs
none_on : (count : ℕ) (entries : List Entry) → AreOnRows count entries → numbers_on count entries ≡ []
none_on count [] rows = refl
none_on count (entry ∷ entries) rows =
    let apart : entry.row ≢ count = λ same. absurd (omega (arith, rows 0 (omega arith), same)) in
    on_other entry entries count apart ∙ none_on count entries (λ k below. rows (suc k) (omega (arith, below)))

pub noted_none : (nodes readers : ℕ) → AreNoted [] (replicate nodes None) readers
noted_none nodes readers = record {
  rows = λ k below. absurd (omega (arith, below));
  readers_too = λ k below. absurd (omega (arith, below));
  lasts_too = λ node below. none_at nodes node;
}
  where
    none_at : (nodes node : ℕ) → get_or (replicate {A = Option ℕ} nodes None) node None ≡ None
    none_at zero node = refl
    none_at (suc nodes) zero = refl
    none_at (suc nodes) (suc node) = none_at nodes node

pub seen_none : (nodes readers : ℕ) → noted_seen [] (replicate nodes None) readers
    ≡ record { rows = replicate nodes []; due = replicate readers true }
seen_none nodes readers =
    let rows = ap (λ n. rows_by n []) (length-replicate {A = Option ℕ} nodes None) ∙ rows_none 0 nodes in
    (λ i. record { rows = rows i; due = replicate readers true })

-- the number of a reader, and the reader of a number
pub reader_next : (n : ℕ) → reader_of (n + 1) ≡ Some n
reader_next n = let next : n + 1 ≡ suc n = omega arith in ap reader_of next

pub reader_known : (x n : ℕ) → reader_of x ≡ Some n → x ≡ n + 1
reader_known zero n is = absurd (search (rules, is))
reader_known (suc m) n is = let same : m ≡ n = ap (λ o. unwrap_or o 0) is in omega (arith, same)

-- a reader is noted last for a node
pub set_reader : (lasts : List ℕ) (node n : ℕ)
    → map reader_of (set lasts node (n + 1)) ≡ set (map reader_of lasts) node (Some n)
set_reader lasts node n = map-set reader_of lasts node (n + 1) ∙ ap (set (map reader_of lasts) node) (reader_next n)

-- no reader was noted yet, or none for a node more
pub no_readers : (nodes : ℕ) → map reader_of (replicate nodes 0) ≡ replicate nodes None
no_readers zero = refl
no_readers (suc nodes) = ap (λ lasts. None ∷ lasts) (no_readers nodes)

pub one_none : (lasts more : List ℕ) → more ≡ lasts ++ 0 ∷ [] → map reader_of more ≡ map reader_of lasts ++ None ∷ []
one_none lasts more is = ap (map reader_of) is ∙ map-append reader_of lasts (0 ∷ [])

-- how many nodes and readers there are
module _ (entries : List Entry) (lasts : List (Option ℕ)) (readers : ℕ) (seen : ReadersSeen)
    (is : noted_seen entries lasts readers ≡ seen) where
  pub many_nodes : length seen.rows ≡ length lasts
  many_nodes = ap (λ (r : ReadersSeen). length r.rows) (sym is) ∙ length-rows_by (length lasts) entries

  pub in_nodes : (node : ℕ) → node < length seen.rows → node < length lasts
  in_nodes node below = omega (arith, below, many_nodes)

  pub many_readers : length seen.due ≡ readers
  many_readers = ap (λ (r : ReadersSeen). length r.due) (sym is) ∙ length-replicate readers true

module _ (entries : List Entry) (lasts : List (Option ℕ)) (readers : ℕ) (noted : AreNoted entries lasts readers) where
  abbrev seen : ReadersSeen
  seen = noted_seen entries lasts readers

  -- whoever reads a node stands on its row, and is one of the readers
  on : (n r : ℕ) → Reads seen n r → IsListed r (numbers_on n entries)
  on n r reads = on_row (length lasts) entries r n reads

  within : (n r : ℕ) → Reads seen n r → n < length lasts
  within n r reads = omega (arith, reads_within seen n r reads, length-rows_by (length lasts) entries)

  pub noted_within : AreWithin seen
  noted_within n r reads = omega (
    arith,
    number_of_one (λ m. m < readers) entries noted.readers_too r n (on n r reads),
    length-replicate readers true,
  )

  -- a node more, which nobody reads
  pub added_seen : noted_seen entries (lasts ++ None ∷ []) readers ≡ record seen { rows = seen.rows ++ [] ∷ [] }
  added_seen =
      let count : length (lasts ++ None ∷ []) ≡ suc (length lasts) = omega (arith, length-append lasts (None ∷ [])) in
      let last : 0 + length lasts ≡ length lasts = omega arith in
      let rows = ap (λ n. rows_by n entries) count ∙ rows_last 0 (length lasts) entries
      ∙ ap (λ ns. seen.rows ++ ns ∷ [])
      (ap (λ n. numbers_on n entries) last ∙ none_on (length lasts) entries noted.rows) in
      (λ i. record { rows = rows i; due = seen.due })

  pub added_noted : AreNoted entries (lasts ++ None ∷ []) readers
  added_noted = record {
    rows = λ k below. omega (arith, noted.rows k below, length-append lasts (None ∷ []));
    readers_too = noted.readers_too;
    lasts_too = λ node below.
        let least : node < length lasts + 1 = omega (arith, below, length-append lasts (None ∷ [])) in
        elim (below_or_last node (length lasts) least) [
          | inl before ↦ get_or_append_left lasts (None ∷ []) None node before ∙ noted.lasts_too node before
          | inr last ↦
              subst (λ n. get_or (lasts ++ None ∷ []) n None ≡ last_of (numbers_on n entries)) (sym last)
              (get_or_push lasts None None (length lasts) refl
              ∙ ap last_of (sym (none_on (length lasts) entries noted.rows)))
        ];
  }

  module _ (node reader : ℕ) (in_nodes : node < length lasts) where
    -- the last reader of a row, and the one that is known
    last_here : get_or lasts node None ≡ last_of (get_or seen.rows node [])
    last_here = noted.lasts_too node in_nodes ∙ ap last_of (sym (row-rows_by (length lasts) entries node in_nodes))

    pub is_known : IsLast reader (get_or seen.rows node []) → get_or lasts node None ≡ Some reader
    is_known last = last_here ∙ last

    -- who was noted last reads the node
    pub notes_again : get_or lasts node None ≡ Some reader → Notes node reader seen seen
    notes_again known =
        let row = get_or seen.rows node [] in
        let last : last_of row ≡ Some reader = sym last_here ∙ known in
        record {
          noted = record {
            place = length row - 1;
            within = slice_get_within row (length row - 1) reader last;
            here = get_or_from_slice_get row (length row - 1) reader 0 last;
          };
          kept = λ n r reads. reads;
          only = λ n r reads. inl reads;
          rows = refl;
          due = refl;
        }

    abbrev entry : Entry
    entry = record { row = node; number = reader }

    abbrev more : List Entry
    more = entries ++ entry ∷ []

    abbrev lasts_next : List (Option ℕ)
    lasts_next = set lasts node (Some reader)

    abbrev next : ReadersSeen
    next = noted_seen more lasts_next readers

    long : length lasts_next ≡ length lasts
    long = length-set lasts node (Some reader)

    reads_next : (n r : ℕ) → n < length lasts → IsListed r (numbers_on n more) → Reads next n r
    reads_next n r below is =
        subst (IsListed r) (sym (row-rows_by (length lasts_next) more n (omega (arith, below, long)))) is

    pub notes_more : Notes node reader seen next
    notes_more = record {
      noted = reads_next node reader in_nodes
          (listed_new entries (entry ∷ []) reader node (listed_here entry node refl));
      kept = λ n r reads. reads_next n r (within n r reads) (listed_old entries (entry ∷ []) r n (on n r reads));
      only = λ n r reads. elim (listed_in entries (entry ∷ []) r n (on_row (length lasts_next) more r n reads)) [
        | inl before ↦
            let below : n < length lasts = omega (
              arith,
              reads_within next n r reads,
              length-rows_by (length lasts_next) more,
              long,
            ) in
            inl (subst (IsListed r) (sym (row-rows_by (length lasts) entries n below)) before)
        | inr last ↦ inr (is_here entry r n last)
      ];
      rows = length-rows_by (length lasts_next) more ∙ long ∙ sym (length-rows_by (length lasts) entries);
      due = refl;
    }

    last_more : (row : List ℕ) → last_of (row ++ reader ∷ []) ≡ Some reader
    last_more row =
        let end : length (row ++ reader ∷ []) - 1 ≡ length row = omega (arith, length-append row (reader ∷ [])) in
        ap (λ n. slice_get (row ++ reader ∷ []) n) end
        ∙ slice_get-get_or (row ++ reader ∷ []) (length row) 0 (omega (arith, length-append row (reader ∷ [])))
        ∙ ap (λ n. Some n) (get_or_push row reader 0 (length row) refl)

    pub noted_more : reader < readers → AreNoted more lasts_next readers
    noted_more in_readers = record {
      rows = λ k below. omega (
        arith,
        each_both (λ e. e.row < length lasts) entries (entry ∷ []) noted.rows
            (each_one (λ e. e.row < length lasts) entry in_nodes) k below,
        long,
      );
      readers_too = each_both (λ e. e.number < readers) entries (entry ∷ []) noted.readers_too
          (each_one (λ e. e.number < readers) entry in_readers);
      lasts_too = λ n below. elim (cases_eq n node) [
        | inl same ↦ subst (λ m. get_or lasts_next m None ≡ last_of (numbers_on m more)) (sym same)
            (get_or-set_same lasts node (Some reader) None in_nodes
            ∙ sym (ap last_of (on_both entries (entry ∷ []) node
            ∙ ap (λ ns. numbers_on node entries ++ ns) (on_here entry [] node refl))
            ∙ last_more (numbers_on node entries)))
        | inr apart ↦
            get_or-set_other lasts node n (Some reader) None apart ∙ noted.lasts_too n (omega (arith, below, long))
            ∙ sym (ap last_of (on_both entries (entry ∷ []) n
            ∙ ap (λ ns. numbers_on n entries ++ ns) (on_other entry [] n (λ same. apart (sym same)))
            ∙ append-nil (numbers_on n entries)))
      ];
    }
