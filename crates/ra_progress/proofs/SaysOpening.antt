-- What accepted bytes say is an opening.
use Rattle.std.proofs.Common.{◌≡◌, ℕ, zero, suc, ◌+◌, ◌*◌, ◌-◌, ◌<◌, ◌≤◌, ◌^◌, ◌==◌, ◌&&◌, ◌||◌, Bool, true, false}
use Rattle.std.proofs.Common.{if◌then◌else◌, nat_lt, nat_le, Option, None, Some, option_map, List, [], ◌∷◌, length, map}
use Rattle.std.proofs.Common.{replicate, get_or, bytes_eq, slice_index, slice_index_or, refl, sym, ◌∙◌, ap, subst}
use Rattle.std.proofs.Common.{arith}
use Rattle.std.specs.List.{AllByRecursion, range_with_len}
use Rattle.std.proofs.lemmas.Bool.{eqb-true, eq-eqb, ltb-true}
use Rattle.std.proofs.lemmas.List.{length-map, length-replicate}
use Rattle.std.proofs.lemmas.List.FromFn.{length-range_with_len}
use Rattle.ra_progress.specs.declared.shape.ItemShape.{ItemShape}
use Rattle.ra_progress.specs.declared.shape.ItemShape.TheVariants.{Achievement, Leaderboard}
use Rattle.ra_progress.specs.declared.shape.PresenceShape.{PresenceShape}
use Rattle.ra_progress.specs.declared.refused.ProgressRefused.{ProgressRefused}
use Rattle.ra_text.specs.Words.{word_at, words_at, AreWords}
use Rattle.ra_progress.specs.Contents.{Name, ShapeContents, OfItem, OfPresence, own_entries, ItemFits, ItemsFit}
use Rattle.ra_progress.specs.Contents.{PresenceFits, IsOpening, plain_item, plain_presence}
use Rattle.ra_progress.specs.Layout.{Numbered, name_at, version_in, digest_in, frames_at, cell_count, prior_count}
use Rattle.ra_progress.specs.Layout.{numbered_at}
use Rattle.ra_progress.specs.Names.{IsPaired}
use Rattle.ra_progress.specs.Reading.{is_state, bad_state, of_this_set, IsAccepted}
use Rattle.ra_progress.specs.Saying.{is_earned, state_said, said_item, said_items, said_presence, said_or, last_number}
use Rattle.ra_progress.specs.Saying.{own_places, script_place, said_numbers, says}
use Rattle.ra_progress.specs.Laws.{HasLines}
use Rattle.ra_progress.proofs.Owns.{own_count, own_item, own_script, script_count}
use Rattle.ra_progress.proofs.ByName.{numbered_from}
use Rattle.ra_progress.proofs.Passes.{both_true}
use Rattle.ra_progress.proofs.Placed.{placed, places_count}
use Rattle.ra_text.proofs.Pieces.{piece_below}

-- a test that refuses where it fails, and did not
pub passes : (b : Bool) (why : ProgressRefused) → (if b then None else Some why) ≡ None → b ≡ true
passes true why none = refl
passes false why none = absurd (cc none)

-- the state that a byte of the table says, and that a triggered achievement is earned
pub state_said_fits : (version hits byte : ℕ) → is_state version (Achievement hits) byte ≡ true
    → (state_said version byte ≤ 4) × (state_said version byte ≡ 4 → is_earned version byte ≡ true)
state_said_fits version hits byte good =
    (elim (version == 3) as (λ b.
    (if b then nat_lt byte 4 || (nat_le 8 byte && nat_lt byte 13) else nat_lt byte 5) ≡ true
    → ((if (if b then nat_le 8 byte else byte == 4) then (if b then byte - 8 else byte) else byte) ≤ 4)
    × ((if (if b then nat_le 8 byte else byte == 4) then (if b then byte - 8 else byte) else byte) ≡ 4 →
    (if b then nat_le 8 byte else byte == 4) ≡ true)) [
      | true ↦ λ good. newer (nat_le 8 byte) good
      | false ↦ λ good. older (byte == 4) refl good
    ]) good
  where
    low : nat_lt byte 4 || false ≡ true → byte < 4
    low good = elim (nat_lt byte 4) as (λ b. nat_lt byte 4 ≡ b → b || false ≡ true → byte < 4) [
      | true ↦ λ e good. ltb-true byte 4 e
      | false ↦ λ e good. absurd (cc good)
    ] refl good

    below : nat_lt byte 4 || nat_lt byte 13 ≡ true → byte < 13
    below good = elim (nat_lt byte 4) as (λ b. nat_lt byte 4 ≡ b → b || nat_lt byte 13 ≡ true → byte < 13) [
      | true ↦ λ e good. omega (arith, ltb-true byte 4 e)
      | false ↦ λ e good. ltb-true byte 13 good
    ] refl good

    newer : (earned : Bool) → nat_lt byte 4 || (earned && nat_lt byte 13) ≡ true
        → ((if earned then byte - 8 else byte) ≤ 4) × ((if earned then byte - 8 else byte) ≡ 4 → earned ≡ true)
    newer true good = (omega (arith, below good), λ four. refl)
    newer false good = (omega (arith, low good), λ four. absurd (omega (arith, low good, four)))

    older : (earned : Bool) → (byte == 4) ≡ earned → nat_lt byte 5 ≡ true
        → ((if earned then byte else byte) ≤ 4) × ((if earned then byte else byte) ≡ 4 → earned ≡ true)
    older true e good = (omega (arith, ltb-true byte 5 good), λ four. refl)
    older false e good = (
      omega (arith, ltb-true byte 5 good),
      λ four. let both : true ≡ false = sym (eq-eqb byte 4 four)
          ∙ e in absurd (cc both),
    )

-- so many numbers that are 0
zeros : (count : ℕ) → AreWords count (replicate count 0)
zeros count = record { as_many = length-replicate count 0; fit = all_zero count }
  where
    all_zero : (count : ℕ) → AllByRecursion (λ n. n < 2 ^ 32) (replicate count 0)
    all_zero zero = tt
    all_zero (suc count) = (omega arith, all_zero count)

-- an item that was never played
plain_fits : (shape : ItemShape) → ItemFits shape (plain_item shape)
plain_fits (Achievement hits) = (omega arith, λ four. absurd (omega (arith, four)), omega arith, zeros hits)
plain_fits (Leaderboard hits parts) = (omega arith, zeros hits, zeros parts)

-- the numbers that stand behind others
last_small : (name : Name) (numbered : List Numbered) (earlier : ℕ)
    → AllByRecursion (λ n. n.number < 2 ^ 32) numbered → earlier < 2 ^ 32
    → last_number name numbered earlier < 2 ^ 32
last_small name [] earlier all small = small
last_small name (n ∷ numbered) earlier all small =
    last_small name numbered (if bytes_eq n.name name then n.number else earlier) all.1
    (elim (bytes_eq n.name name) as
    (λ b. (if b then n.number else earlier) < 2 ^ 32) [ true ↦ all.0 | false ↦ small ])

all_last : (names : List Name) (numbered : List Numbered) → AllByRecursion (λ n. n.number < 2 ^ 32) numbered
    → AllByRecursion (λ n. n < 2 ^ 32) (map (λ name. last_number name numbered 0) names)
all_last [] numbered all = tt
all_last (name ∷ names) numbered all = (last_small name numbered 0 all (omega arith), all_last names numbered all)

all_numbers : (numbered : List Numbered) → AllByRecursion (λ n. n.number < 2 ^ 32) numbered
    → AllByRecursion (λ n. n < 2 ^ 32) (map (λ n. n.number) numbered)
all_numbers [] all = tt
all_numbers (n ∷ numbered) all = (all.0, all_numbers numbered all.1)

module _ (bytes : List ℕ) (fit : AllByRecursion (λ b. b < 256) bytes) where
  word_small : (at : ℕ) → word_at bytes at < 2 ^ 32
  word_small at =
      let byte = piece_below bytes at 4 fit in
      omega (arith, byte 0, byte 1, byte 2, byte 3)

  frames_small : frames_at bytes < 2 ^ 64
  frames_small =
      let byte = piece_below bytes 21 8 fit in
      omega (arith, byte 0, byte 1, byte 2, byte 3, byte 4, byte 5, byte 6, byte 7)

  words_small : (at first count : ℕ)
      → AllByRecursion (λ n. n < 2 ^ 32) (map (λ k. word_at bytes (at + 4 * k)) (range_with_len first count))
  words_small at first zero = tt
  words_small at first (suc count) = (word_small (at + 4 * first), words_small at (first + 1) count)

  words_are : (at count : ℕ) → AreWords count (words_at bytes at count)
  words_are at count = record {
    as_many = length-map (range_with_len 0 count) (λ k. word_at bytes (at + 4 * k)) ∙ length-range_with_len 0 count;
    fit = words_small at 0 count;
  }

  numbered_small : (at first count : ℕ)
      → AllByRecursion (λ n. n.number < 2 ^ 32) (numbered_from bytes at first count)
  numbered_small at first zero = tt
  numbered_small at first (suc count) = (word_small (at + 20 * first + 16), numbered_small at (first + 1) count)

  numbered_count : (at count : ℕ) → length (map (λ n. n.number) (numbered_at bytes at count)) ≡ count
  numbered_count at count =
      length-map (numbered_at bytes at count) (λ (n : Numbered). n.number)
      ∙ length-map (range_with_len 0 count)
      (λ k. record { name = name_at bytes (at + 20 * k); number = word_at bytes (at + 20 * k + 16) })
      ∙ length-range_with_len 0 count

  -- the block that is in its table says an item of the shape
  said_fits : (shape : ItemShape) (at : ℕ) → bad_state bytes (record { at = at; shape = OfItem shape }) ≡ None
      → ItemFits shape (said_item bytes shape at)
  said_fits (Achievement hits) at good =
      let state = state_said_fits (version_in bytes) hits (slice_index bytes at)
      (passes (is_state (version_in bytes) (Achievement hits) (slice_index bytes at)) _ good) in
      (state.0, state.1, word_small (at + 1), words_are (at + 5) hits)
  said_fits (Leaderboard hits parts) at good =
      let below = ltb-true (slice_index bytes at) 5 (passes (nat_lt (slice_index bytes at) 5) _ good) in
      (omega (arith, below), words_are (at + 1) hits, words_are (at + 1 + 4 * hits) parts)

  said_or_fits : (shape : ItemShape) (place : Option ℕ)
      → ((at : ℕ) → place ≡ Some at → bad_state bytes (record { at = at; shape = OfItem shape }) ≡ None)
      → ItemFits shape (said_or (said_item bytes shape) (plain_item shape) place)
  said_or_fits shape None good = plain_fits shape
  said_or_fits shape (Some at) good = said_fits shape at (good at refl)

  items_fit : (shapes : List ItemShape) (places : List (Option ℕ)) → length shapes ≤ length places
      → ((n at : ℕ) (d : ItemShape) → n < length shapes → slice_index_or places n None ≡ Some at
      → bad_state bytes (record { at = at; shape = OfItem (get_or shapes n d) }) ≡ None)
      → ItemsFit shapes (said_items bytes shapes places)
  items_fit [] places many good = tt
  items_fit (shape ∷ shapes) [] many good = absurd (omega (arith, many))
  items_fit (shape ∷ shapes) (place ∷ places) many good = (
    said_or_fits shape place (λ at is. good 0 at shape (omega arith) is),
    items_fit shapes places (omega (arith, many)) (λ n at d less is. good (suc n) at d (omega (arith, less)) is),
  )

  presence_fits : (shape : Option PresenceShape) (place : Option ℕ)
      → ((p : PresenceShape) → shape ≡ Some p → 0 < p.lines)
      → ((p : PresenceShape) (at : ℕ) → shape ≡ Some p → place ≡ Some at
      → bad_state bytes (record { at = at; shape = OfPresence p }) ≡ None)
      → PresenceFits shape (option_map (λ p. said_or (said_presence bytes p) (plain_presence p) place) shape)
  presence_fits None place lines good = tt
  presence_fits (Some p) None lines good = (omega (arith, lines p refl), zeros p.hits, zeros p.parts)
  presence_fits (Some p) (Some at) lines good = (
    ltb-true (word_at bytes at) p.lines
        (passes (nat_lt (word_at bytes at) p.lines) _ (good p at refl refl)),
    words_are (at + 4) p.hits,
    words_are
        (at + 4 + 4 * p.hits) p.parts,
  )

  -- numbers that are said of names
  numbers_fit : (shape : ShapeContents) (at place count : ℕ) (names : List Name)
      → (of_this_set shape bytes ≡ true → count ≡ length names)
      → AreWords (length names) (said_numbers shape bytes at names (numbered_at bytes place count))
  numbers_fit shape at place count names many =
      let numbered = numbered_at bytes place count in
      elim (version_in bytes == 1) as
      (λ b. AreWords (length names)
      (if b then words_at bytes at (length names) else if of_this_set shape bytes then map
      (λ n. n.number) numbered else map (λ name. last_number name numbered 0) names)) [
        | true ↦ words_are at (length names)
        | false ↦ (elim (of_this_set shape bytes) as (λ b. of_this_set shape bytes ≡ b
            → AreWords (length names) (if b then map (λ n. n.number) numbered
            else map (λ name. last_number name numbered 0) names)) [
              | true ↦ λ e. record {
                as_many = numbered_count place count ∙ many e;
                fit = all_numbers numbered (numbered_small place 0 count);
              }
              | false ↦ λ e. record {
                as_many = length-map names (λ name. last_number name numbered 0);
                fit = all_last names numbered (numbered_small place 0 count);
              }
            ]) refl
      ]

  pub says_opening : (shape : ShapeContents) → IsPaired shape → HasLines shape → IsAccepted shape bytes
      → IsOpening shape (says shape bytes)
  says_opening shape paired lines ok =
      let owns = own_entries shape in
      let many = places_count shape bytes in
      let few = own_count shape paired in
      record {
        frames = frames_small;
        cells = numbers_fit shape 29 33 (cell_count bytes) shape.cells (λ same.
            eqb-true (cell_count bytes) (length shape.cells)
            (both_true (cell_count bytes == length shape.cells) _
            (both_true (bytes_eq (digest_in bytes) shape.digest) _ same).1).0);
        priors = numbers_fit shape (29 + 4 * length shape.cells) (37 + 20 * cell_count bytes)
            (prior_count bytes) shape.priors (λ same.
            eqb-true (prior_count bytes) (length shape.priors)
            (both_true (prior_count bytes == length shape.priors) _
            (both_true (cell_count bytes == length shape.cells) _
            (both_true (bytes_eq (digest_in bytes) shape.digest) _ same).1).1).0);
        items = items_fit shape.items (own_places shape bytes) (omega (arith, many, few)) (λ n at d less is.
            subst (λ entry. bad_state bytes (record { at = at; shape = entry }) ≡ None)
            (own_item shape paired n d less)
            (placed (λ block. bad_state bytes block ≡ None) shape bytes n at ok.states
            (omega (arith, less, few)) is));
        presence = presence_fits shape.presence (script_place shape bytes) lines (λ p at some is.
            subst (λ entry. bad_state bytes (record { at = at; shape = entry }) ≡ None)
            (own_script shape paired p some)
            (placed (λ block. bad_state bytes block ≡ None) shape bytes (length shape.items) at ok.states
            (omega (arith, few, ap script_count some)) is));
      }
