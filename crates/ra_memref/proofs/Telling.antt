-- A write is told page by page.
use Rattle.std.proofs.Common.{◌≡◌, ℕ, ◌+◌, ◌-◌, ◌/◌, ◌<◌, ◌≤◌, inl, inr, Bool, true, false, ◌&&◌, ◌||◌, Option, List}
use Rattle.std.proofs.Common.{length, get_or, refl, sym, ◌∙◌, ap, ap₂, arith, subst, slice_index}
use Rattle.ra_memory.specs.Image.{IsReadWidth}
use Rattle.ra_links.specs.Rows.{holder_of}
use Rattle.ra_memref.specs.declared.watches.Watches.TheInside.{Inside}
use Rattle.ra_memref.specs.Marking.{is_at, is_before, is_between}
use Rattle.ra_memref.specs.Watches.{WatchesSeen, IsIndexed, MarksWatchers, marked_by, first_page, reaches}
use Rattle.ra_memref.specs.Watches.{watches_between}
use Rattle.ra_memref.specs.contracts.watches.Watches.{the_view}
use Rattle.ra_memref.proofs.MarkLemmas.{length-marked_by, marked_after, marked_too}
use Rattle.ra_memref.proofs.Pages.{between_more, watched_first, watched_is, watched_none, watches_by}

-- the watches with other marks
abbrev pub with_marks : Inside → List Bool → Inside
with_marks t marks = record t { marks = marks }

-- a cell watches one of the pages before this one
abbrev pub is_told : Inside → ℕ → ℕ → ℕ → Bool
is_told t first page k = watches_between t.size first page (slice_index t.places.items k) (slice_index t.widths.items k)

-- the page of a cell's first byte
abbrev pub page_in : Inside → ℕ → Option ℕ
page_in t k = first_page t.size (slice_index t.places.items k)

-- the cells on the lists of the pages from the first on, before this one, are marked
pub record IsTelling (old now : Inside) (first page : ℕ) : Type 0 where
  pub same : now ≡ record old { marks = now.marks }
  pub long : length now.marks ≡ length old.marks
  pub marked : (k : ℕ) → k < length old.places.items
      → get_or now.marks k true ≡ (get_or old.marks k true || is_between first page (page_in old k))

or_joined : (a b c : Bool) → ((a || b) || c) ≡ (a || (b || c))
or_joined true b c = refl
or_joined false b c = refl

-- where a cell stands while pages are told
listed_at : (old now : Inside) (first page : ℕ) → IsTelling old now first page → old.listed ≡ old.size
    → IsIndexed old.listed old.widths.items old.places.items old.marks old.pages
    → (k : ℕ) → k < length old.places.items → holder_of now.pages.lists k ≡ page_in old k
listed_at old now first page telling whole is k below =
    ap (λ (t : Inside). holder_of t.pages.lists k) telling.same ∙ is.stands k below
    ∙ ap (λ n. first_page n (slice_index old.places.items k)) whole

-- one page more is told
pub telling_more : (old now : Inside) (first page : ℕ) (marks : List Bool) → IsTelling old now first page
    → old.listed ≡ old.size → IsIndexed old.listed old.widths.items old.places.items old.marks old.pages
    → first ≤ page → length marks ≡ length now.marks → ((k : ℕ) → k < length now.marks
    → get_or marks k true ≡ (get_or now.marks k true || is_at (holder_of now.pages.lists k) page))
    → IsTelling old (with_marks now marks) first (page + 1)
telling_more old now first page marks telling whole is above long marked = record {
  same = ap {A = Inside} (λ t. with_marks t marks) telling.same;
  long = long ∙ telling.long;
  marked = λ k below. marked k (omega (arith, below, telling.long, is.marks_too))
      ∙ ap₂ (λ b o. b || is_at o page) (telling.marked k below)
      (listed_at old now first page telling whole is k below)
      ∙ or_joined (get_or old.marks k true) (is_between first page (page_in old k)) (is_at (page_in old k) page)
      ∙ ap (λ b. get_or old.marks k true || b) (sym (between_more first page (page_in old k) above));
}

at_most_four : (width : ℕ) → IsReadWidth width → (0 < width) × (width ≤ 4)
at_most_four width (inl e) = (omega (arith, e), omega (arith, e))
at_most_four width (inr (inl e)) = (omega (arith, e), omega (arith, e))
at_most_four width (inr (inr e)) = (omega (arith, e), omega (arith, e))

-- watches of which some cells more are marked, by one of the two ways
abbrev pub with_marked : Inside → (from : ℕ) → List Bool → WatchesSeen
with_marked t from marks = record (the_view t) { marked = marked_by from marks }

-- the cells that watch one of all pages of a write are marked too
pub told_together : (old : Inside) (seen : WatchesSeen) (from : ℕ) (marks : List Bool) (at count : ℕ)
    → the_view old ≡ seen → IsIndexed old.listed old.widths.items old.places.items old.marks old.pages → 0 < count
    → length marks ≡ length old.marks
    → ((k : ℕ) → k < length old.places.items → get_or (marked_by from marks) k true
    ≡ (get_or (marked_by old.marked_from old.marks) k true || is_told old (at / 16) ((at + count - 1) / 16 + 1) k))
    → MarksWatchers seen (with_marked old from marks) at count
told_together old seen from marks at count view_is is some long marked =
    subst (λ w. MarksWatchers w (with_marked old from marks) at count) view_is (record {
      rest = refl;
      long = length-marked_by from marks ∙ long ∙ sym (length-marked_by old.marked_from old.marks);
      marked = λ k below.
          let wide = at_most_four (slice_index old.widths.items k) (is.wide k below) in
          marked k below ∙ ap (λ b. get_or (marked_by old.marked_from old.marks) k true || b)
          (sym (watched_is old.size (slice_index old.places.items k) (slice_index old.widths.items k) at count some
          wide.1 wide.0));
    })

-- all pages are told, and the cells on the page before them that reach them are marked too
pub told_all : (old now : Inside) (seen : WatchesSeen) (marks : List Bool) (at count : ℕ) → the_view old ≡ seen
    → old.listed ≡ old.size → IsIndexed old.listed old.widths.items old.places.items old.marks old.pages → 0 < count
    → IsTelling old now (at / 16) ((at + count - 1) / 16 + 1) → length marks ≡ length now.marks
    → ((k : ℕ) → k < length now.marks → get_or marks k true
    ≡ (get_or now.marks k true || (is_before (holder_of now.pages.lists k) (at / 16)
    && reaches now.size (at / 16) ((at + count - 1) / 16 + 1) (slice_index now.places.items k)
    (slice_index now.widths.items k))))
    → MarksWatchers seen (the_view (with_marks now marks)) at count
told_all old now seen marks at count view_is whole is some telling long marked =
    let first = at / 16 in
    let end = (at + count - 1) / 16 + 1 in
    subst (λ (t : Inside). MarksWatchers seen (the_view (with_marks t marks)) at count) (sym telling.same)
    (told_together old seen old.marked_from marks at count view_is is some (long ∙ telling.long)
    (λ k below.
    let place = slice_index old.places.items k in
    let width = slice_index old.widths.items k in
    let wide = at_most_four width (is.wide k below) in
    let reached : reaches now.size first end (slice_index now.places.items k) (slice_index now.widths.items k)
    ≡ reaches old.size first end place width = ap (λ (t : Inside). reaches t.size first end
    (slice_index t.places.items k) (slice_index t.widths.items k)) telling.same in
    marked_too old.marked_from old.marks marks k (is_told old first end k)
    (marked k (omega (arith, below, telling.long, is.marks_too))
    ∙ ap₂ (λ b o. b || (is_before o first && reaches now.size first end (slice_index now.places.items k)
    (slice_index now.widths.items k))) (telling.marked k below) (listed_at old now first end telling whole is k below)
    ∙ ap (λ r. (get_or old.marks k true || is_between first end (page_in old k))
    || (is_before (page_in old k) first && r)) reached
    ∙ or_joined (get_or old.marks k true) (is_between first end (page_in old k))
    (is_before (page_in old k) first && reaches old.size first end place width)
    ∙ ap (λ b. get_or old.marks k true || b) (watches_by old.size first end place width wide.1 wide.0))))

or_true : (b : Bool) → (b || true) ≡ true
or_true true = refl
or_true false = refl

-- where all bytes of the image are told, and each cell lies in it by its first byte, all cells are marked
pub told_whole : (old : Inside) (seen : WatchesSeen) (at count : ℕ) → the_view old ≡ seen
    → IsIndexed old.listed old.widths.items old.places.items old.marks old.pages → 0 < count
    → at + count ≤ seen.size → count ≡ old.size
    → ((k : ℕ) → k < length old.places.items → slice_index old.places.items k < old.size)
    → MarksWatchers seen (with_marked old 0 old.marks) at count
told_whole old seen at count view_is is some fits whole within =
    let size : old.size ≡ seen.size = ap (λ (w : WatchesSeen). w.size) view_is in
    told_together old seen 0 old.marks at count view_is is some refl (λ k below.
    marked_after 0 old.marks k (omega arith)
    ∙ sym (ap (λ b. get_or (marked_by old.marked_from old.marks) k true || b)
    (watched_first old.size (at / 16) ((at + count - 1) / 16 + 1) (slice_index old.places.items k)
    (slice_index old.widths.items k) (within k below) (omega (arith, fits, whole, size))
    (omega (arith, within k below, fits, whole, size)))
    ∙ or_true (get_or (marked_by old.marked_from old.marks) k true)))

or_false : (b : Bool) → b ≡ (b || false)
or_false true = refl
or_false false = refl

-- an empty write marks none
pub told_nothing : (seen : WatchesSeen) (at count : ℕ) → count ≡ 0 → MarksWatchers seen seen at count
told_nothing seen at count none = subst (λ n. MarksWatchers seen seen at n) (sym none) (record {
  rest = refl;
  long = refl;
  marked = λ k below. or_false (get_or seen.marked k true)
      ∙ ap (λ b. get_or seen.marked k true || b) (sym
      (watched_none seen.size (slice_index seen.places k) (slice_index seen.widths k) at));
})
