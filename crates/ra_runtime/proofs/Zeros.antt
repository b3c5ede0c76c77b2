-- A row of zeros has the blocks of items and of a display that keep nothing.
use Rattle.std.proofs.Common.{◌≡◌, ℕ, zero, suc, ◌+◌, ◌-◌, ◌<◌, ◌≤◌, ◌^◌, Option, None, Some, option_map, IfSome, List}
use Rattle.std.proofs.Common.{[], ◌∷◌, ◌++◌, length, map, drop, replicate, sum_by, refl, sym, ◌∙◌, ap, ap₂, arith, lit<}
use Rattle.std.proofs.Common.{length-append}
use Rattle.std.specs.List.{AllByRecursion, concat}
use Rattle.std.specs.Int.{w32, to_le_bytes}
use Rattle.std.proofs.lemmas.List.{length-replicate}
use Rattle.ra_text.specs.Words.{AreWords, words}
use Rattle.ra_progress.specs.declared.shape.ItemShape.{ItemShape}
use Rattle.ra_progress.specs.declared.shape.ItemShape.TheVariants.{Achievement, Leaderboard}
use Rattle.ra_progress.specs.declared.shape.PresenceShape.{PresenceShape}
use Rattle.ra_progress.specs.Contents.{KeptPresence, ItemsFit, PresenceFits, plain_item}
use Rattle.ra_progress.specs.Layout.{item_length, script_length, version_in}
use Rattle.ra_progress.specs.Spelling.{item_bytes, presence_block, presence_bytes}
use Rattle.ra_progress.proofs.Blocks.{length_presence}
use Rattle.ra_items.proofs.KeptItems.{blocks_long}
use Rattle.ra_runtime.specs.Keeping.{AreBlocks, HasLines}

-- each byte is 0
abbrev pub AreZeros : List ℕ → Type 0
AreZeros bytes = AllByRecursion (λ b. b ≡ 0) bytes

both_zeros : (xs ys : List ℕ) → AreZeros xs → AreZeros ys → AreZeros (xs ++ ys)
both_zeros [] ys front behind = behind
both_zeros (x ∷ xs) ys front behind = (front.0, both_zeros xs ys front.1 behind)

zero_words : (n : ℕ) → AreZeros (words (replicate n 0))
zero_words zero = tt
zero_words (suc n) = both_zeros (to_le_bytes w32 0) (words (replicate n 0))
    (refl, (refl, (refl, (refl, tt)))) (zero_words n)

all_zero : (n : ℕ) → AllByRecursion (λ k. k < 2 ^ 32) (replicate n 0)
all_zero zero = tt
all_zero (suc n) = (lit< tt, all_zero n)

zeros : (n : ℕ) → AreWords n (replicate n 0)
zeros n = record { as_many = length-replicate n 0; fit = all_zero n }

plain_fits : (shapes : List ItemShape) → ItemsFit shapes (map plain_item shapes)
plain_fits [] = tt
plain_fits (Achievement hits ∷ shapes) =
    ((omega arith, λ four. absurd (omega (arith, four)), lit< tt, zeros hits), plain_fits shapes)
plain_fits (Leaderboard hits parts ∷ shapes) = ((omega arith, zeros hits, zeros parts), plain_fits shapes)

plain_zeros : (shapes : List ItemShape) → AreZeros (concat (map item_bytes (map plain_item shapes)))
plain_zeros [] = tt
plain_zeros (Achievement hits ∷ shapes) = both_zeros (item_bytes (plain_item (Achievement hits)))
    (concat (map item_bytes (map plain_item shapes))) (refl, zero_words (suc hits))
    (plain_zeros shapes)
plain_zeros (Leaderboard hits parts ∷ shapes) = both_zeros (item_bytes (plain_item (Leaderboard hits
    parts))) (concat (map item_bytes (map plain_item shapes))) (
      refl,
      both_zeros (words
          (replicate hits 0)) (words (replicate parts 0)) (zero_words hits) (zero_words parts),
    )
    (plain_zeros shapes)

-- a display of which nothing is kept
abbrev pub zero_presence : PresenceShape → KeptPresence
zero_presence shape = record { shown = 0; hits = replicate shape.hits 0; numbers = replicate shape.parts 0 }

presence_fits : (shape : Option PresenceShape) → IfSome shape HasLines
    → PresenceFits shape (option_map zero_presence shape)
presence_fits None lines = tt
presence_fits (Some shape) lines = (lines.some, zeros shape.hits, zeros shape.parts)

few_lines : (shape : Option PresenceShape) → IfSome shape HasLines → IfSome shape (λ p. p.lines < 2 ^ 32)
few_lines None lines = tt
few_lines (Some shape) lines = lines.few

presence_zeros : (shape : Option PresenceShape) → AreZeros (concat (presence_block (option_map zero_presence shape)))
presence_zeros None = tt
presence_zeros (Some shape) =
    both_zeros (presence_bytes (zero_presence shape)) []
    (both_zeros (words (replicate (suc shape.hits) 0)) (words (replicate shape.parts 0))
    (zero_words (suc shape.hits)) (zero_words shape.parts)) tt

presence_long : (shape : Option PresenceShape) → IfSome shape HasLines
    → length (concat (presence_block (option_map zero_presence shape))) ≡ script_length shape
presence_long None lines = refl
presence_long (Some shape) lines =
    omega (
      arith,
      length_presence shape (zero_presence shape) (presence_fits (Some shape) lines),
      length-append (presence_bytes (zero_presence shape)) [],
    )

-- zeros stand where zeros are
zeros_stand : (piece : List ℕ) (n : ℕ) → AreZeros piece → length piece ≤ n → replicate n 0
    ≡ piece ++ replicate (n - length piece) 0
zeros_stand [] n all less = ap (λ m. replicate m 0) (omega arith)
zeros_stand (x ∷ piece) zero all less = absurd (omega (arith, less))
zeros_stand (x ∷ piece) (suc n) all less =
    ap₂ (λ y ys. y ∷ ys) (sym all.0) (zeros_stand piece n all.1 (omega (arith, less))
    ∙ ap (λ m. piece ++ replicate m 0) (omega arith))

pub zero_blocks : (bytes : List ℕ) (shapes : List ItemShape) (presence : Option PresenceShape)
    (n : ℕ) → IfSome presence HasLines → 20 ≤ length bytes → version_in bytes ≡ 3 → drop 20 bytes
    ≡ replicate n 0 → n ≡ sum_by item_length shapes + script_length presence
    → AreBlocks bytes shapes presence (map plain_item shapes) (option_map zero_presence presence)
zero_blocks bytes shapes presence n lines far three rest is =
    let items = concat (map item_bytes (map plain_item shapes)) in
    let shown = concat (presence_block (option_map zero_presence presence)) in
    let long : length (items ++ shown) ≡ n =
    omega (
      arith,
      is,
      length-append items shown,
      blocks_long shapes (map plain_item shapes) (plain_fits shapes),
      presence_long presence lines,
    ) in
    record {
      long = far;
      version = three;
      fit = plain_fits shapes;
      fits = presence_fits presence lines;
      small = few_lines presence lines;
      behind = replicate (n - length (items ++ shown)) 0;
      here = rest ∙ zeros_stand (items ++ shown) n (both_zeros items shown (plain_zeros shapes)
          (presence_zeros presence)) (omega (arith, long));
    }
