-- Passes over the entries and blocks of a file, one by one.
use Rattle.std.proofs.Common.{◌≡◌, ℕ, suc, ◌+◌, ◌-◌, ◌<◌, ◌≤◌, ◌==◌, ◌&&◌, Bool, true, false, Option, None, Some, List}
use Rattle.std.proofs.Common.{[], ◌∷◌, ◌++◌, length, map, take, drop, find, not, slice_index, sum_by, refl, sym, ◌∙◌}
use Rattle.std.proofs.Common.{ap, arith, drop-cons}
use Rattle.std.proofs.lemmas.Bool.{eqb-true}
use Rattle.std.proofs.lemmas.List.{drop_all}
use Rattle.std.proofs.lemmas.List.Sums.{sum_by-cons}
use Rattle.ra_progress.specs.declared.refused.ProgressRefused.{ProgressRefused}
use Rattle.ra_progress.specs.Contents.{Own, own_at}
use Rattle.ra_text.specs.Words.{word_at}
use Rattle.ra_progress.specs.Layout.{Entry, own_length, entry_at, entry_after, entries_from, entries_in, entry_count}
use Rattle.ra_progress.specs.Layout.{first_entry}
use Rattle.ra_progress.specs.Reading.{HasLayout, or_later, bad_entry, bad_entries, Block, bad_state, bad_states}
use Rattle.ra_progress.specs.Reading.{blocks_from, blocks_beside, blocks_of_entry, blocks_named, have_sizes}
use Rattle.ra_progress.proofs.Checks.{holds}
use Rattle.ra_progress.proofs.Walks.{IsWalk, walk_first}
use Rattle.ra_progress.proofs.OwnOrder.{read_as, between_step, none_passes}
use Rattle.ra_progress.proofs.Sizes.{entries_step, entries_count, sizes_step}

-- of two refusals the first decides
pub first_is : (a b : Option ProgressRefused) (why : ProgressRefused) → a ≡ Some why → or_later a b ≡ Some why
first_is a b why some = rw some refl

pub later_is : (a b : Option ProgressRefused) → a ≡ None → or_later a b ≡ b
later_is a b none = rw none refl

later_later : (a b c : Option ProgressRefused) → or_later (or_later a b) c ≡ or_later a (or_later b c)
later_later (Some why) b c = refl
later_later None b c = refl

-- blocks in two parts
pub states_parts : (bytes : List ℕ) (xs ys : List Block)
    → bad_states bytes (xs ++ ys) ≡ or_later (bad_states bytes xs) (bad_states bytes ys)
states_parts bytes [] ys = refl
states_parts bytes (x ∷ xs) ys =
    ap (or_later (bad_state bytes x)) (states_parts bytes xs ys)
    ∙ sym (later_later (bad_state bytes x) (bad_states bytes xs) (bad_states bytes ys))

-- the next entry, and those behind it
pub entries_next : (owns : List Own) (bytes : List ℕ) (left at : ℕ) → 0 < left
    → bad_entries owns (entries_from bytes left at)
    ≡ or_later (bad_entry owns (entry_at bytes at))
    (bad_entries owns (entries_from bytes (left - 1) (entry_after bytes at)))
entries_next owns bytes left at some = ap (bad_entries owns) (entries_step bytes left at some)

pub named_next : (owns : List Own) (bytes : List ℕ) (left at : ℕ) → 0 < left
    → bad_states bytes (blocks_named owns (entries_from bytes left at))
    ≡ or_later (bad_states bytes (blocks_of_entry owns (entry_at bytes at)))
    (bad_states bytes (blocks_named owns (entries_from bytes (left - 1) (entry_after bytes at))))
named_next owns bytes left at some =
    ap (λ entries. bad_states bytes (blocks_named owns entries)) (entries_step bytes left at some)
    ∙ states_parts bytes (blocks_of_entry owns (entry_at bytes at))
    (blocks_named owns (entries_from bytes (left - 1) (entry_after bytes at)))

pub both_true : (a b : Bool) → (a && b) ≡ true → (a ≡ true) × (b ≡ true)
both_true true true same = (refl, refl)
both_true true false same = absurd (cc same)
both_true false b same = absurd (cc same)

-- entries that have the lengths of the own ones are as many
pub as_many : (owns : List Own) (entries : List Entry) → have_sizes owns entries ≡ true
    → length entries ≡ length owns
as_many [] [] same = refl
as_many [] (entry ∷ entries) same = absurd (cc same)
as_many (own ∷ owns) [] same = absurd (cc same)
as_many (own ∷ owns) (entry ∷ entries) same =
    let rest = as_many owns entries (both_true (entry.size == own_length own) (have_sizes owns entries) same).1 in
    omega (arith, rest)

-- the next entry has the length of the own one beside it, and so have the later ones
pub sized_next : (bytes : List ℕ) (owns : List Own) (number at : ℕ) → number < length owns
    → have_sizes (drop number owns) (entries_from bytes (length owns - number) at) ≡ true
    → (word_at bytes (at + 16)
    ≡ own_length (own_at owns number)) × (have_sizes (drop (number + 1) owns)
    (entries_from bytes (length owns - (number + 1)) (entry_after bytes at)) ≡ true)
sized_next bytes owns number at below same =
    let both = both_true (word_at bytes (at + 16) == own_length (own_at owns number))
    (have_sizes (drop (number + 1) owns) (entries_from bytes (length owns - (number + 1)) (entry_after bytes at)))
    (sym (sizes_step bytes owns number at below) ∙ same) in
    (eqb-true (word_at bytes (at + 16)) (own_length (own_at owns number)) both.0, both.1)

-- the next block of a file of this set, and those behind it
pub beside_next : (bytes : List ℕ) (owns : List Own) (number at : ℕ) → number < length owns
    → bad_states bytes (blocks_beside (drop number owns) (entries_from bytes (length owns - number) at))
    ≡ or_later (bad_state bytes (record { at = at + 20; shape = (own_at owns number).shape }))
    (bad_states bytes (blocks_beside (drop (number + 1) owns)
    (entries_from bytes (length owns - (number + 1)) (entry_after bytes at))))
beside_next bytes owns number at below =
    let one : length owns - number - 1 ≡ length owns - (number + 1) = omega arith in
    let more : suc number ≡ number + 1 = omega arith in
    rw (
      entries_step bytes (length owns - number) at (omega (arith, below)),
      drop-cons owns number
          (own_at [] 0) below,
      one,
      ← more,
    ) refl

-- the next block of version 1, and those behind it
pub from_next : (bytes : List ℕ) (owns : List Own) (number at : ℕ) → number < length owns
    → bad_states bytes (blocks_from at (drop number owns))
    ≡ or_later (bad_state bytes (record { at = at; shape = (own_at owns number).shape }))
    (bad_states bytes (blocks_from (at + own_length (own_at owns number)) (drop (number + 1) owns)))
from_next bytes owns number at below =
    let more : suc number ≡ number + 1 = omega arith in
    rw (drop-cons owns number (own_at [] 0) below, ← more) refl

-- the lengths that are left
pub sum_next : (owns : List Own) (number : ℕ) → number < length owns
    → sum_by own_length (drop number owns)
    ≡ own_length (own_at owns number) + sum_by own_length (drop (number + 1) owns)
sum_next owns number below =
    let more : suc number ≡ number + 1 = omega arith in
    ap (sum_by own_length) (drop-cons owns number (own_at [] 0) below)
    ∙ sum_by-cons own_length (own_at owns number) (drop (suc number) owns)
    ∙ ap (λ n. own_length (own_at owns number) + sum_by own_length (drop n owns)) more

-- the next of the own entries that an entry is read as, and those behind it
pub between_next : (bytes : List ℕ) (owns : List Own) (order : List ℕ) (at place to : ℕ) → place < to
    → to ≤ length order
    → bad_states bytes (map (read_as at) (map (own_at owns) (take (to - place) (drop place order))))
    ≡ or_later (bad_state bytes (read_as at (own_at owns (slice_index order place))))
    (bad_states bytes (map (read_as at) (map (own_at owns) (take (to - (place + 1)) (drop (place + 1) order)))))
between_next bytes owns order at place to less most =
    ap (λ xs. bad_states bytes (map (read_as at) (map (own_at owns) xs))) (between_step order place to less most)

-- the next of them has this length, and so have those behind it
pub sized_between : (owns : List Own) (order : List ℕ) (size place to : ℕ) → place < to → to ≤ length order
    → find (λ own. not (own_length own == size)) (map (own_at owns) (take (to - place) (drop place order))) ≡ None
    → (own_length (own_at owns (slice_index order place))
    ≡ size) × (find (λ own. not (own_length own == size))
    (map (own_at owns) (take (to - (place + 1)) (drop (place + 1) order))) ≡ None)
sized_between owns order size place to less most none =
    let p : Own → Bool = λ own. not (own_length own == size) in
    let own = own_at owns (slice_index order place) in
    let step = ap (λ xs. find p (map (own_at owns) xs)) (between_step order place to less most) in
    let both = none_passes p own (map (own_at owns) (take (to - (place + 1)) (drop (place + 1) order)))
    (sym step ∙ none) in
    (eqb-true (own_length own) size (holds (own_length own == size) both.0), both.1)

-- behind the last block there is none
pub from_end : (bytes : List ℕ) (owns : List Own) (number at : ℕ) → length owns ≤ number
    → bad_states bytes (blocks_from at (drop number owns)) ≡ None
from_end bytes owns number at over = rw (drop_all number owns over) refl

pub beside_end : (bytes : List ℕ) (owns : List Own) (number at : ℕ) → length owns ≤ number
    → bad_states bytes (blocks_beside (drop number owns) (entries_from bytes (length owns - number) at)) ≡ None
beside_end bytes owns number at over = rw (drop_all number owns over) refl

-- a file whose entries have the lengths of the own ones has as many
pub this_set_count : (owns : List Own) (bytes : List ℕ) → have_sizes owns (entries_in bytes) ≡ true
    → length owns ≡ entry_count bytes
this_set_count owns bytes same =
    sym (as_many owns (entries_in bytes) same) ∙ entries_count bytes (entry_count bytes) (first_entry bytes)

-- its entries are those from the first one on, as many as own ones
pub this_set_entries : (owns : List Own) (bytes : List ℕ) (at : ℕ) → at ≡ first_entry bytes
    → have_sizes owns (entries_in bytes) ≡ true → entries_from bytes (length owns - 0) at ≡ entries_in bytes
this_set_entries owns bytes at start same =
    let many : length owns - 0 ≡ entry_count bytes = omega (arith, this_set_count owns bytes same) in
    rw (many, start) refl

pub this_set_walk : (owns : List Own) (bytes : List ℕ) (at : ℕ) → at ≡ first_entry bytes → HasLayout bytes
    → have_sizes owns (entries_in bytes) ≡ true → IsWalk bytes (length owns - 0) at
this_set_walk owns bytes at start layout same =
    let many : length owns - 0 ≡ entry_count bytes = omega (arith, this_set_count owns bytes same) in
    rw (many, start) (walk_first bytes layout)
