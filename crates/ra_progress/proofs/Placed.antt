-- Each place of an own entry is that of a block that is looked at, and such a block lies within the file.
use Rattle.std.proofs.Common.{◌≡◌, ◌⊎◌, inl, inr, ℕ, zero, suc, ◌+◌, ◌-◌, ◌*◌, ◌<◌, ◌≤◌, ◌==◌, not, true, false}
use Rattle.std.proofs.Common.{if◌then◌else◌, Option, None, Some, List, [], ◌∷◌, ◌++◌, length, map, drop, find, get_or}
use Rattle.std.proofs.Common.{drop-cons, bytes_eq, slice_index_or, sum_by, refl, sym, ◌∙◌, subst, arith}
use Rattle.std.specs.List.{AllByRecursion}
use Rattle.std.proofs.lemmas.Bool.{eqb-true}
use Rattle.std.proofs.lemmas.List.{length-map, get_or-map}
use Rattle.std.proofs.lemmas.List.Sums.{sum_by-cons}
use Rattle.std.proofs.lemmas.Slice.Eq.{bytes_eq-Decides}
use Rattle.ra_progress.specs.Contents.{Name, ShapeContents, Own, own_entries, own_at, plain_item}
use Rattle.std.specs.Prelude.{IfSome}
use Rattle.ra_progress.specs.declared.shape.ItemShape.{ItemShape}
use Rattle.ra_text.specs.Words.{word_at}
use Rattle.ra_progress.specs.Layout.{Entry, block_length, own_length, entry_at, entry_after, entries_from, entries_in}
use Rattle.ra_progress.specs.Layout.{entry_count, first_entry, version_in, blocks_at_1, length_1_of, cell_count}
use Rattle.ra_progress.specs.Layout.{prior_count, digest_in}
use Rattle.ra_progress.specs.Reading.{HasLayout, IsWhole, IsAccepted, have_sizes, of_this_set, is_version, owns_named}
use Rattle.ra_progress.specs.Reading.{bad_entry, Block, blocks_from, blocks_beside, blocks_of_entry, blocks_named}
use Rattle.ra_progress.specs.Reading.{blocks_in}
use Rattle.ra_progress.specs.Saying.{last_block, own_places, said_or, said_item, said_items}
use Rattle.ra_progress.proofs.Checks.{holds}
use Rattle.ra_progress.proofs.Walks.{IsWalk, walk_first, walk_next}
use Rattle.ra_progress.proofs.OwnOrder.{read_as, none_passes, none_before}
use Rattle.ra_progress.proofs.Passes.{both_true, as_many}

pub all_join : {A : Type 0} (P : A → Type 0) (xs ys : List A) → AllByRecursion P xs → AllByRecursion P ys
    → AllByRecursion P (xs ++ ys)
all_join P [] ys left right = right
all_join P (x ∷ xs) ys left right = (left.0, all_join P xs ys left.1 right)

pub all_front : {A : Type 0} (P : A → Type 0) (xs ys : List A) → AllByRecursion P (xs ++ ys) → AllByRecursion P xs
all_front P [] ys all = tt
all_front P (x ∷ xs) ys all = (all.0, all_front P xs ys all.1)

pub all_behind : {A : Type 0} (P : A → Type 0) (xs ys : List A) → AllByRecursion P (xs ++ ys) → AllByRecursion P ys
all_behind P [] ys all = all
all_behind P (x ∷ xs) ys all = all_behind P xs ys all.1

-- a file of this set has as many entries as the set writes, each with the length of the own one beside it
pub sizes_of_this_set : (shape : ShapeContents) (bytes : List ℕ) → of_this_set shape bytes ≡ true
    → have_sizes (own_entries shape) (entries_in bytes) ≡ true
sizes_of_this_set shape bytes same =
    let digest = both_true (bytes_eq (digest_in bytes) shape.digest) _ same in
    let cells = both_true (cell_count bytes == length shape.cells) _ digest.1 in
    (both_true (prior_count bytes == length shape.priors)
    (have_sizes (own_entries shape) (entries_in bytes)) cells.1).1

-- what is read and is not version 1 has a layout with names
pub whole_layout : (shape : ShapeContents) (bytes : List ℕ) → IsWhole shape bytes → (version_in bytes == 1) ≡ false
    → HasLayout bytes
whole_layout shape bytes whole other = record {
  fewest = whole.fewest;
  most = whole.most;
  marked = whole.marked;
  version = later (version_in bytes) other whole.version;
  as_long = whole.as_long ∙ rw other refl;
}
  where
    later : (v : ℕ) → (v == 1) ≡ false → is_version v ≡ true → (v ≡ 2) ⊎ (v ≡ 3)
    later v not_1 read = elim (v == 2) as (λ b. (v == 2) ≡ b → (v ≡ 2) ⊎ (v ≡ 3)) [
      | true ↦ λ e. inl (eqb-true v 2 e)
      | false ↦ λ e. inr (eqb-true v 3 (sym (rw (not_1, e) refl) ∙ read))
    ] refl

-- a file of this set has as many cells and priors as the set
pub counts_of_this_set : (shape : ShapeContents) (bytes : List ℕ) → of_this_set shape bytes ≡ true
    → (cell_count bytes ≡ length shape.cells) × (prior_count bytes ≡ length shape.priors)
counts_of_this_set shape bytes same =
    let digest = both_true (bytes_eq (digest_in bytes) shape.digest) _ same in
    let cells = both_true (cell_count bytes == length shape.cells) _ digest.1 in
    let priors = both_true (prior_count bytes == length shape.priors)
    (have_sizes (own_entries shape) (entries_in bytes)) cells.1 in (
      eqb-true (cell_count bytes) (length shape.cells) cells.0,
      eqb-true (prior_count bytes) (length shape.priors) priors.0,
    )

-- the numbers of version 1 lie within the file
pub numbers_in_1 : (shape : ShapeContents) (bytes : List ℕ) → IsWhole shape bytes → version_in bytes ≡ 1
    → 29 + 4 * (length shape.cells + length shape.priors) ≤ length bytes
numbers_in_1 shape bytes whole first =
    let own : length bytes ≡ length_1_of shape = whole.as_long ∙ rw first refl in omega (arith, own)

-- the names with their numbers lie within a file with a layout
pub numbers_named : (bytes : List ℕ) → HasLayout bytes → 57 + 20 * (cell_count bytes + prior_count bytes) ≤ length bytes
numbers_named bytes layout = omega (arith, (walk_first bytes layout).within)

module _ (P : Block → Type 0) where
  place_1 : (owns : List Own) (start n at : ℕ) → AllByRecursion P (blocks_from start owns) → n < length owns
      → slice_index_or (map (λ block. Some block.at) (blocks_from start owns)) n None ≡ Some at
      → P (read_as at (own_at owns n))
  place_1 [] start n at all less is = absurd (omega (arith, less))
  place_1 (own ∷ owns) start zero at all less is =
      let same : start ≡ at = cc in subst (λ a. P (read_as a own)) same all.0
  place_1 (own ∷ owns) start (suc n) at all less is =
      place_1 owns (start + own_length own) n at all.1 (omega (arith, less)) is

  place_beside : (owns : List Own) (entries : List Entry) (n at : ℕ) → have_sizes owns entries ≡ true
      → AllByRecursion P (blocks_beside owns entries) → n < length owns
      → slice_index_or (map (λ entry. Some (entry.at + 20)) entries) n None ≡ Some at
      → P (read_as at (own_at owns n))
  place_beside [] entries n at same all less is = absurd (omega (arith, less))
  place_beside (own ∷ owns) [] n at same all less is = absurd (cc same)
  place_beside (own ∷ owns) (entry ∷ entries) zero at same all less is =
      let here : entry.at + 20 ≡ at = cc in subst (λ a. P (read_as a own)) here all.0
  place_beside (own ∷ owns) (entry ∷ entries) (suc n) at same all less is =
      place_beside owns entries n at
      (both_true (entry.size == own_length own) (have_sizes owns entries) same).1 all.1 (omega (arith, less)) is

  -- an own entry of a name is one of those of the name
  one_named : (at : ℕ) (name : Name) (owns : List Own) (n : ℕ)
      → AllByRecursion P (map (read_as at) (owns_named name owns)) → n < length owns
      → bytes_eq (own_at owns n).name name ≡ true → P (read_as at (own_at owns n))
  one_named at name [] n all less same = absurd (omega (arith, less))
  one_named at name (own ∷ owns) zero all less same =
      (elim (bytes_eq own.name name) as
      (λ b. bytes_eq own.name name ≡ b → AllByRecursion P
      (map (read_as at) (if b then own ∷ owns_named name owns else owns_named name owns)) → P (read_as at own)) [
        | true ↦ λ e all. all.0
        | false ↦ λ e all. let both : true ≡ false = sym same ∙ e in absurd (cc both)
      ]) refl all
  one_named at name (own ∷ owns) (suc n) all less same =
      one_named at name owns n
      ((elim (bytes_eq own.name name) as
      (λ b. AllByRecursion P (map (read_as at)
      (if b then own ∷ owns_named name owns else owns_named name owns)) → AllByRecursion P
      (map (read_as at) (owns_named name owns))) [
        | true ↦ λ all. all.1
        | false ↦ λ all. all
      ]) all) (omega (arith, less)) same

  place_named : (owns : List Own) (n : ℕ) (entries : List Entry) (earlier : Option ℕ) (at : ℕ) → n < length owns
      → AllByRecursion P (blocks_named owns entries)
      → ((a : ℕ) → earlier ≡ Some a → P (read_as a (own_at owns n)))
      → last_block (own_at owns n).name entries earlier ≡ Some at → P (read_as at (own_at owns n))
  place_named owns n [] earlier at less all before is = before at is
  place_named owns n (entry ∷ entries) earlier at less all before is =
      let here = all_front P (blocks_of_entry owns entry) (blocks_named owns entries) all in
      let name = (own_at owns n).name in
      place_named owns n entries (if bytes_eq entry.name name then Some (entry.at + 20) else earlier) at less
      (all_behind P (blocks_of_entry owns entry) (blocks_named owns entries) all)
      ((elim (bytes_eq entry.name name) as
      (λ b. bytes_eq entry.name name ≡ b → (a : ℕ) → (if b then Some (entry.at + 20) else earlier) ≡ Some a → P
      (read_as a (own_at owns n))) [
        | true ↦ λ e a some.
            let same : entry.name ≡ name = (bytes_eq-Decides entry.name name).0 e in
            let place : entry.at + 20 ≡ a = cc some in
            subst (λ a. P (read_as a (own_at owns n))) place
            (one_named (entry.at + 20) entry.name owns n here less
            ((bytes_eq-Decides name entry.name).1 (sym same)))
        | false ↦ λ e a some. before a some
      ]) refl) is

  -- what holds of all blocks that are looked at holds of the block of each own entry
  pub placed : (shape : ShapeContents) (bytes : List ℕ) (n at : ℕ) → AllByRecursion P (blocks_in shape bytes)
      → n < length (own_entries shape)
      → slice_index_or (own_places shape bytes) n None ≡ Some at → P (read_as at (own_at (own_entries shape) n))
  placed shape bytes n at all less is =
      let owns = own_entries shape in
      let entries = entries_in bytes in
      (elim (version_in bytes == 1) as
      (λ b. AllByRecursion P (if b then blocks_from
      (blocks_at_1 shape) owns else if of_this_set shape bytes then blocks_beside owns entries
      else blocks_named owns entries)
      → slice_index_or (if b then map (λ block. Some block.at) (blocks_from (blocks_at_1 shape)
      owns) else if of_this_set shape bytes then map (λ entry. Some (entry.at + 20)) entries
      else map (λ own. last_block own.name entries None) owns) n None ≡ Some at
      → P (read_as at (own_at owns n))) [
        | true ↦ λ all is. place_1 owns (blocks_at_1 shape) n at all less is
        | false ↦ λ all is. (elim (of_this_set shape bytes) as (λ b. of_this_set shape bytes ≡ b
            → AllByRecursion P (if b then blocks_beside owns entries else blocks_named owns entries)
            → slice_index_or (if b then map (λ entry. Some (entry.at + 20)) entries
            else map (λ own. last_block own.name entries None) owns) n None ≡ Some at
            → P (read_as at (own_at owns n))) [
              | true ↦ λ e all is. place_beside owns entries n at (sizes_of_this_set shape bytes e) all less is
              | false ↦ λ e all is. place_named owns n entries None at less all
                  (λ a none. absurd (cc none)) (sym (get_or-map
                  (λ own. last_block own.name entries None) owns n (own_at [] 0) None less) ∙ is)
            ]) refl all is
      ]) all is

-- the block lies within the bytes
abbrev pub Within : List ℕ → Block → Type 0
Within bytes block = block.at + block_length block.shape ≤ length bytes

within_1 : (bytes : List ℕ) (owns : List Own) (at : ℕ) → at + sum_by own_length owns ≤ length bytes
    → AllByRecursion (Within bytes) (blocks_from at owns)
within_1 bytes [] at fits = tt
within_1 bytes (own ∷ owns) at fits =
    let sum = sum_by-cons own_length own owns in
    (omega (arith, sum, fits), within_1 bytes owns (at + own_length own) (omega (arith, sum, fits)))

within_beside : (bytes : List ℕ) (owns : List Own) (left at : ℕ) → IsWalk bytes left at
    → have_sizes owns (entries_from bytes left at) ≡ true
    → AllByRecursion (Within bytes) (blocks_beside owns (entries_from bytes left at))
within_beside bytes [] left at walk same = tt
within_beside bytes (own ∷ owns) zero at walk same = tt
within_beside bytes (own ∷ owns) (suc left) at walk same =
    let next = walk_next bytes (suc left) at (omega arith) walk in
    let one : suc left - 1 ≡ left = omega arith in
    let both = both_true (word_at bytes (at + 16) == own_length own)
    (have_sizes owns (entries_from bytes left (entry_after bytes at))) same in
    let long = eqb-true (word_at bytes (at + 16)) (own_length own) both.0 in (
      omega (arith, next.0, long),
      within_beside bytes owns left (entry_after bytes at)
          (subst (λ n. IsWalk bytes n (entry_after bytes at)) one next.1) both.1,
    )

within_read : (bytes : List ℕ) (at size : ℕ) (owns : List Own) → at + size ≤ length bytes
    → find (λ own. not (own_length own == size)) owns ≡ None → AllByRecursion (Within bytes) (map (read_as at) owns)
within_read bytes at size [] fits none = tt
within_read bytes at size (own ∷ owns) fits none =
    let both = none_passes (λ own. not (own_length own == size)) own owns none in
    let long = eqb-true (own_length own) size (holds (own_length own == size) both.0) in
    (omega (arith, long, fits), within_read bytes at size owns fits both.1)

within_named : (bytes : List ℕ) (owns : List Own) (left at : ℕ) → IsWalk bytes left at
    → AllByRecursion (λ entry. bad_entry owns entry ≡ None) (entries_from bytes left at)
    → AllByRecursion (Within bytes) (blocks_named owns (entries_from bytes left at))
within_named bytes owns zero at walk good = tt
within_named bytes owns (suc left) at walk good =
    let next = walk_next bytes (suc left) at (omega arith) walk in
    let one : suc left - 1 ≡ left = omega arith in
    all_join (Within bytes) (blocks_of_entry owns (entry_at bytes at))
    (blocks_named owns (entries_from bytes left (entry_after bytes at)))
    (within_read bytes (at + 20) (word_at bytes (at + 16)) (owns_named (entry_at bytes at).name owns)
    (omega (arith, next.0)) (none_before _ _ good.0))
    (within_named bytes owns left (entry_after bytes at)
    (subst (λ n. IsWalk bytes n (entry_after bytes at)) one next.1) good.1)

-- of accepted bytes all blocks that are looked at lie within
pub blocks_within : (shape : ShapeContents) (bytes : List ℕ) → IsAccepted shape bytes
    → AllByRecursion (Within bytes) (blocks_in shape bytes)
blocks_within shape bytes ok =
    let owns = own_entries shape in
    let entries = entries_in bytes in
    (elim (version_in bytes == 1) as
    (λ b. (version_in bytes == 1) ≡ b → AllByRecursion (Within bytes)
    (if b then blocks_from
    (blocks_at_1 shape) owns else if of_this_set shape bytes then blocks_beside owns entries
    else blocks_named owns entries)) [
      | true ↦ λ e.
          let long : length bytes ≡ length_1_of shape = ok.whole.as_long ∙ rw e refl in
          within_1 bytes owns (blocks_at_1 shape) (omega (arith, long))
      | false ↦ λ e.
          let walk = walk_first bytes (whole_layout shape bytes ok.whole e) in
          (elim (of_this_set shape bytes) as
          (λ b. of_this_set shape bytes ≡ b → AllByRecursion (Within bytes)
          (if b then blocks_beside owns entries else blocks_named owns entries)) [
            | true ↦ λ f. within_beside bytes owns (entry_count bytes) (first_entry bytes) walk
                (sizes_of_this_set shape bytes f)
            | false ↦ λ f. within_named bytes owns (entry_count bytes) (first_entry bytes) walk
                (ok.entries (rw (e, f) refl))
          ]) refl
    ]) refl

-- the block of each own entry lies within accepted bytes
pub own_within : (shape : ShapeContents) (bytes : List ℕ) (n at : ℕ) → IsAccepted shape bytes
    → n < length (own_entries shape)
    → slice_index_or (own_places shape bytes) n None ≡ Some at
    → at + own_length (own_at (own_entries shape) n) ≤ length bytes
own_within shape bytes n at ok less is =
    placed (Within bytes) shape bytes n at (blocks_within shape bytes ok) less is

blocks_count : (owns : List Own) (at : ℕ) → length (blocks_from at owns) ≡ length owns
blocks_count [] at = refl
blocks_count (own ∷ owns) at = let rest = blocks_count owns (at + own_length own) in omega (arith, rest)

-- there is a place for each own entry
pub places_count : (shape : ShapeContents) (bytes : List ℕ)
    → length (own_places shape bytes) ≡ length (own_entries shape)
places_count shape bytes =
    let owns = own_entries shape in
    let entries = entries_in bytes in
    elim (version_in bytes == 1) as
    (λ b. length (if b then map (λ block. Some block.at)
    (blocks_from (blocks_at_1 shape) owns) else if of_this_set shape bytes then map
    (λ entry. Some (entry.at + 20)) entries else map
    (λ own. last_block own.name entries None) owns) ≡ length owns) [
      | true ↦ length-map (blocks_from (blocks_at_1 shape) owns) (λ block. Some block.at)
          ∙ blocks_count owns (blocks_at_1 shape)
      | false ↦ (elim (of_this_set shape bytes) as (λ b. of_this_set shape bytes ≡ b
          → length (if b then map (λ entry. Some (entry.at + 20)) entries
          else map (λ own. last_block own.name entries None) owns) ≡ length owns) [
            | true ↦ λ e. length-map entries (λ entry. Some (entry.at + 20))
                ∙ as_many owns entries (sizes_of_this_set shape bytes e)
            | false ↦ λ e. length-map owns (λ own. last_block own.name entries None)
          ]) refl
    ]

-- what holds of each value that may be there holds of what is there
pub if_some : {A : Type 0} (P : A → Type 0) (o : Option A) → ((x : A) → o ≡ Some x → P x) → IfSome o P
if_some P None holds = tt
if_some P (Some x) holds = holds x refl

-- the next item that is said
pub said_next : (bytes : List ℕ) (shapes : List ItemShape) (places : List (Option ℕ)) (k : ℕ) (d : ItemShape)
    → k < length shapes → k < length places
    → said_items bytes (drop k shapes) (drop k places)
    ≡ said_or (said_item bytes (get_or shapes k d)) (plain_item (get_or shapes k d))
    (slice_index_or places k None) ∷ said_items bytes (drop (k + 1) shapes) (drop (k + 1) places)
said_next bytes shapes places k d one two =
    let more : suc k ≡ k + 1 = omega arith in
    rw (drop-cons shapes k d one, drop-cons places k None two, ← more) refl
