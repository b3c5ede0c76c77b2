-- Words in a row, and words of a piece of the bytes.
use Rattle.std.proofs.Common.{◌≡◌, ℕ, ◌+◌, ◌-◌, ◌*◌, ◌<◌, ◌≤◌, inl, inr, List, ◌++◌, length, map, take, drop, ◌∙◌, ap}
use Rattle.std.proofs.Common.{arith, length-append}
use Rattle.std.specs.List.{range_with_len}
use Rattle.std.specs.Int.{w32, from_le_bytes}
use Rattle.std.proofs.lemmas.Bool.{cases_lt}
use Rattle.std.proofs.lemmas.List.{take-take, drop-drop, drop-take, get_or_append_left, get_or-append_right}
use Rattle.std.proofs.lemmas.List.FromFn.{fill_by_all, length-map-range_with_len, get_or-map-range_with_len}
use Rattle.ra_text.specs.Words.{word_at, words_at}

range_same : (f g : ℕ → ℕ) (n : ℕ) → ((k : ℕ) → k < n → f k ≡ g k) → map f (range_with_len 0 n)
    ≡ map g (range_with_len 0 n)
range_same f g n same =
    fill_by_all g (map f (range_with_len 0 n)) n 0 (length-map-range_with_len f 0 n)
    (λ k below. get_or-map-range_with_len f 0 n k k 0 below (omega arith) ∙ same k below)

-- so many words are so many
pub length-words_at : (bytes : List ℕ) (at n : ℕ) → length (words_at bytes at n) ≡ n
length-words_at bytes at n = length-map-range_with_len (λ k. word_at bytes (at + 4 * k)) 0 n

-- a word of a piece is a word of the whole
word_piece : (bytes : List ℕ) (at n i : ℕ) → i + 4 ≤ n → word_at (take n (drop at bytes)) i ≡ word_at bytes (at + i)
word_piece bytes at n i within =
    let whole : n ≡ i + (n - i) = omega arith in
    let enough : 4 ≤ n - i = omega arith in
    ap (λ m. from_le_bytes w32 (take 4 (drop i (take m (drop at bytes))))) whole
    ∙ ap (λ xs. from_le_bytes w32 (take 4 xs)) (drop-take i (n - i) (drop at bytes))
    ∙ ap (from_le_bytes w32) (take-take 4 (n - i) (drop i (drop at bytes)) enough)
    ∙ ap (λ xs. from_le_bytes w32 (take 4 xs)) (drop-drop i at bytes)

pub words_piece : (bytes : List ℕ) (at n from there count : ℕ) → from + 4 * count ≤ n → at + from
    ≡ there → words_at (take n (drop at bytes)) from count ≡ words_at bytes there count
words_piece bytes at n from there count within is =
    range_same (λ k. word_at (take n (drop at bytes)) (from + 4 * k)) (λ k. word_at bytes (there + 4 * k)) count
    (λ k below. let same : at + (from + 4 * k) ≡ there + 4 * k = omega arith in
    word_piece bytes at n (from + 4 * k) (omega arith) ∙ ap (word_at bytes) same)

-- words, and those that stand behind them
pub words_row : (bytes : List ℕ) (at behind m n : ℕ) → behind ≡ at + 4 * m
    → words_at bytes at m ++ words_at bytes behind n ≡ words_at bytes at (m + n)
words_row bytes at behind m n is =
    let f : ℕ → ℕ = λ k. word_at bytes (at + 4 * k) in
    let g : ℕ → ℕ = λ k. word_at bytes (behind + 4 * k) in
    let first = words_at bytes at m in
    let next = words_at bytes behind n in
    let long : length first ≡ m = length-words_at bytes at m in
    let long_too : length next ≡ n = length-words_at bytes behind n in
    fill_by_all f (first ++ next) (m + n) 0 (omega (arith, length-append first next, long, long_too))
    (λ k below. elim (cases_lt k m) [
      | inl lt ↦ let within : k < length first = omega (arith, long) in get_or_append_left first
          next 0 k within ∙ get_or-map-range_with_len f 0 m k k 0 lt (omega arith)
      | inr ge ↦
          let there : behind + 4 * (k - m) ≡ at + 4 * k = omega arith in
          get_or-append_right first next m k 0 long ge ∙ get_or-map-range_with_len g 0 n (k - m)
          (k - m) 0 (omega arith) (omega arith) ∙ ap (word_at bytes) there
    ])
