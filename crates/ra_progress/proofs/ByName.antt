-- Values that are put by name: the last one of a name stays.
use Rattle.std.proofs.Common.{◌≡◌, ℕ, suc, ◌+◌, ◌*◌, ◌-◌, ◌<◌, ◌≤◌, ◌==◌, true, false, if◌then◌else◌, Option, Some}
use Rattle.std.proofs.Common.{List, ◌++◌, length, map, take, drop, append-nil, get_or, bytes_eq, slice_index}
use Rattle.std.proofs.Common.{slice_index_or, refl, sym, ◌∙◌, ap, subst, arith}
use Rattle.std.specs.List.{range_with_len, Contains}
use Rattle.std.proofs.lemmas.List.{drop_all, take_all, get_or-map, length-map, ext_get_or, get_or_default}
use Rattle.std.proofs.lemmas.Simd.{map-map}
use Rattle.std.proofs.lemmas.List.Elements.{Contains-get_or}
use Rattle.std.proofs.lemmas.List.Sorted.{Contains-permutation}
use Rattle.std.proofs.lemmas.List.FromFn.{length-range_with_len, get_or-range_with_len}
use Rattle.std.proofs.lemmas.Slice.Eq.{bytes_eq-Decides}
use Rattle.ra_progress.specs.Contents.{Name, ShapeContents, shape_contents}
use Rattle.ra_text.specs.Words.{word_at, words_at}
use Rattle.ra_progress.specs.Layout.{Numbered, version_in, name_at, numbered_at, entry_after, entries_from}
use Rattle.ra_progress.specs.Names.{IsOrder, IsRange, IsUsable, names_of, order_in, named_by}
use Rattle.ra_progress.specs.declared.named.Named.{Named}
use Rattle.ra_progress.specs.declared.named.Named.TheVariants as named
use Rattle.ra_progress.specs.declared.shape.Shape.{Shape}
use Rattle.ra_progress.specs.Saying.{last_number, last_block, said_numbers}
use Rattle.ra_progress.specs.Reading.{of_this_set}
use Rattle.ra_progress.proofs.Sizes.{entries_step}

-- so many names with their numbers, from the one of this number on
abbrev pub numbered_from : List ℕ → (at first count : ℕ) → List Numbered
numbered_from bytes at first count =
    map (λ k. record { name = name_at bytes (at + 20 * k); number = word_at bytes (at + 20 * k + 16) })
    (range_with_len first count)

-- their numbers
pub numbers_of : (bytes : List ℕ) (at count : ℕ)
    → map (λ n. n.number) (numbered_at bytes at count) ≡ map (λ k. word_at bytes (at + 20 * k + 16))
    (range_with_len 0 count)
numbers_of bytes at count =
    map-map (λ (n : Numbered). n.number)
    (λ k. record { name = name_at bytes (at + 20 * k); number = word_at bytes (at + 20 * k + 16) })
    (range_with_len 0 count)

-- the next of them, and those behind it
pub last_next : (bytes : List ℕ) (name : Name) (at k count earlier : ℕ) → k < count
    → last_number name (numbered_from bytes at k (count - k)) earlier
    ≡ last_number name (numbered_from bytes at (k + 1) (count - (k + 1)))
    (if bytes_eq (name_at bytes (at + 20 * k)) name then word_at bytes (at + 20 * k + 16) else earlier)
last_next bytes name at k count earlier less =
    let one : count - k ≡ suc (count - (k + 1)) = omega (arith, less) in
    rw one refl

-- behind the last one nothing changes
pub last_end : (bytes : List ℕ) (name : Name) (at k count earlier : ℕ) → count ≤ k
    → last_number name (numbered_from bytes at k (count - k)) earlier ≡ earlier
last_end bytes name at k count earlier over = let none : count - k ≡ 0 = omega (arith, over) in rw none refl

-- the next entry, and those behind it
pub block_next : (bytes : List ℕ) (name : Name) (left at : ℕ) (earlier : Option ℕ) → 0 < left
    → last_block name (entries_from bytes left at) earlier
    ≡ last_block name (entries_from bytes (left - 1) (entry_after bytes at))
    (if bytes_eq (name_at bytes at) name then Some (at + 20) else earlier)
block_next bytes name left at earlier some =
    ap (λ entries. last_block name entries earlier) (entries_step bytes left at some)

zero_more : (n : ℕ) → 0 + n ≡ n
zero_more n = omega arith

-- the order that is searched is one of the names
pub order_is : (shape : Shape) (named : Named) → IsUsable shape
    → IsOrder (names_of named (shape_contents shape)) (order_in named shape)
order_is shape named.Cell is = is.searchable.cells
order_is shape named.Prior is = is.searchable.priors
order_is shape named.Entry is = is.searchable.entries

-- each number stands in the order
place_of : (names : List Name) (order : List ℕ) (n : ℕ) → IsOrder names order → n < length names
    → (k : ℕ) × (k < length order) × (slice_index order k ≡ n)
place_of names order n is less =
    let in_range : n < length (range_with_len 0 (length names)) = omega
    (arith, less, length-range_with_len 0 (length names)) in
    let number : get_or (range_with_len 0 (length names)) n n ≡ n = get_or-range_with_len 0 (length names) n n less
    ∙ zero_more n in
    let here : Contains (range_with_len 0 (length names)) n = subst
    (Contains (range_with_len 0 (length names))) number
    (Contains-get_or (range_with_len 0 (length names)) n n in_range) in
    let found = Contains-permutation (range_with_len 0 (length names)) order n is.each here in
    (found.0, found.1, get_or_default order found.0 0 n found.1 ∙ found.2)

module _ {T : Type 0} (names : List Name) (order : List ℕ) (name : Name) (from to : ℕ)
    (old new : List T) (value : T) where
  -- a value that is put in the range of a name is put by name
  pub put_by_name : IsOrder names order → IsRange names order name from to
      → ((k : ℕ) (d : T) → from ≤ k → k < to → slice_index_or new (slice_index order k) d ≡ value)
      → ((n : ℕ) (d : T) → ((k : ℕ) → from ≤ k → k < to → slice_index order k ≡ n → ⊥) → slice_index_or new n d
      ≡ slice_index_or old n d)
      → (n : ℕ) (d : T) → n < length names → slice_index_or new n d
      ≡ (if bytes_eq name (named_by names n) then value else slice_index_or old n d)
  put_by_name is range there kept n d less =
      let place = place_of names order n is less in
      elim (bytes_eq name (named_by names n)) as
      (λ b. bytes_eq name (named_by names n) ≡ b → slice_index_or new n d ≡
      (if b then value else slice_index_or old n d)) [
        | true ↦ λ e.
            let same : named_by names (slice_index order place.0) ≡ name = ap (named_by names) place.2 ∙ sym
            ((bytes_eq-Decides name (named_by names n)).0 e) in
            let in_it = (range.only place.0 place.1).0 same in
            ap (λ m. slice_index_or new m d) (sym place.2) ∙ there place.0 d in_it.0 in_it.1
        | false ↦ λ e. kept n d (λ k low high is_n.
            let same : name ≡ named_by names n = sym
            ((range.only k (omega (arith, high, range.most))).1 (low, high)) ∙ ap (named_by names) is_n in
            let both : true ≡ false = sym ((bytes_eq-Decides name (named_by names n)).1 same) ∙ e in
            cc both)
      ] refl

-- values one by one are those of a list
pub by_index : {A B : Type 0} (f : A → B) (xs : List A) (ys : List B) (d : A) (e : B) → length ys ≡ length xs
    → ((n : ℕ) → n < length xs → slice_index_or ys n e ≡ f (slice_index_or xs n d)) → ys ≡ map f xs
by_index f xs ys d e many each =
    ext_get_or e ys (map f xs) (many ∙ sym (length-map xs f))
    (λ n less. let below : n < length xs = omega (arith, less, many) in each n below ∙ sym
    (get_or-map f xs n d e below))

-- what a file says of names that is read by names
pub said_by_name : (shape : ShapeContents) (bytes : List ℕ) (at : ℕ) (names : List Name) (numbered : List Numbered)
    → (version_in bytes == 1) ≡ false → of_this_set shape bytes ≡ false
    → said_numbers shape bytes at names numbered ≡ map (λ name. last_number name numbered 0) names
said_by_name shape bytes at names numbered other foreign = rw (other, foreign) refl

-- version 1 says so many words
pub said_in_1 : (shape : ShapeContents) (bytes : List ℕ) (at : ℕ) (names : List Name) (numbered : List Numbered)
    → version_in bytes ≡ 1 → said_numbers shape bytes at names numbered ≡ words_at bytes at (length names)
said_in_1 shape bytes at names numbered first = rw first refl

-- a later version says the numbers in their order where the file is of the set
pub said_by_place : (shape : ShapeContents) (bytes : List ℕ) (at : ℕ) (names : List Name) (numbered : List Numbered)
    → (version_in bytes == 1) ≡ false → of_this_set shape bytes ≡ true
    → said_numbers shape bytes at names numbered ≡ map (λ n. n.number) numbered
said_by_place shape bytes at names numbered other own = rw (other, own) refl

-- what was put over all of a list is all of it
pub put_over : {A : Type 0} (n : ℕ) (new old : List A) → length new ≡ n → length old ≡ n
    → take n (new ++ drop (length new) old) ≡ new
put_over n new old long before =
    ap (λ rest. take n (new ++ rest)) (drop_all (length new) old (omega (arith, long, before)))
    ∙ ap (take n) (append-nil new) ∙ take_all n new (omega (arith, long))
