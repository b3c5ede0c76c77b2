-- Pieces that stand at places of bytes, and words read there and written again.
use Rattle.std.proofs.Common.{◌≡◌, ℕ, suc, zero, ◌+◌, ◌*◌, ◌<◌, ◌≤◌, ◌^◌, List, [], ◌∷◌, ◌++◌, length, map, take, drop}
use Rattle.std.proofs.Common.{get_or, slice_index, refl, sym, ◌∙◌, ap, subst, arith, append_assoc, lit<}
use Rattle.std.specs.List.{AllByRecursion, range_with_len}
use Rattle.std.specs.Int.{w32, to_le_bytes}
use Rattle.std.proofs.lemmas.Nat.{from_le_bytes-to_le_bytes_4, le_bytes_4}
use Rattle.std.proofs.lemmas.List.{drop-drop, get_or-drop, length-take-le, length-drop}
use Rattle.std.proofs.Math.Seq.{drop-append_seam, take-append_seam, take-add}
use Rattle.ra_text.specs.Words.{word_at, words_at, words}

-- the bytes go on with the piece at the place
pub record Stands (bytes : List ℕ) (at : ℕ) (piece : List ℕ) : Type 0 where
  pub behind : List ℕ
  pub here : drop at bytes ≡ piece ++ behind

pub stands_first : (bytes : List ℕ) (at : ℕ) (xs ys : List ℕ) → Stands bytes at (xs ++ ys) → Stands bytes at xs
stands_first bytes at xs ys s = record { behind = ys ++ s.behind; here = s.here ∙ append_assoc xs ys s.behind }

pub stands_next : (bytes : List ℕ) (at next : ℕ) (xs ys : List ℕ) → next ≡ at + length xs
    → Stands bytes at (xs ++ ys) → Stands bytes next ys
stands_next bytes at next xs ys e s = record {
  behind = s.behind;
  here = rw (e, ← drop-drop (length xs) at bytes, s.here, append_assoc) (drop-append_seam xs (ys ++ s.behind));
}

pub stands_take : (bytes : List ℕ) (at n : ℕ) (piece : List ℕ) → length piece ≡ n
    → Stands bytes at piece → take n (drop at bytes) ≡ piece
stands_take bytes at n piece e s = rw (s.here, ← e) (take-append_seam piece s.behind)

-- a byte that stands there is read
pub stands_byte : (bytes : List ℕ) (at n : ℕ) (rest : List ℕ) → Stands bytes at (n ∷ rest) → slice_index bytes at ≡ n
stands_byte bytes at n rest s =
    let e : at + 0 ≡ at = omega arith in
    subst (λ k. get_or bytes k 0 ≡ n) e (sym (get_or-drop at bytes 0 0) ∙ ap (λ xs. get_or xs 0 0) s.here)

-- a word that stands there is read
pub stands_word : (bytes : List ℕ) (at n : ℕ) → n < 2 ^ 32 → Stands bytes at (to_le_bytes w32 n) → word_at bytes at ≡ n
stands_word bytes at n below s =
    rw (stands_take bytes at 4 (to_le_bytes w32 n) refl s) (from_le_bytes-to_le_bytes_4 n below)

pub length_words : (numbers : List ℕ) → length (words numbers) ≡ 4 * length numbers
length_words [] = refl
length_words (n ∷ numbers) = let rest : length (words numbers) ≡ 4 * length numbers =
    length_words numbers in omega arith

-- words that stand in a row, the first of them the word of this number
words_from : (bytes : List ℕ) (at j : ℕ) (numbers : List ℕ)
    → AllByRecursion (λ n. n < 2 ^ 32) numbers → Stands bytes (at + 4 * j) (words numbers)
    → map (λ k. word_at bytes (at + 4 * k)) (range_with_len j (length numbers)) ≡ numbers
words_from bytes at j [] fit s = refl
words_from bytes at j (n ∷ numbers) fit s =
    let first : word_at bytes (at + 4 * j) ≡ n = stands_word bytes (at + 4 * j) n fit.0
    (stands_first bytes (at + 4 * j) (to_le_bytes w32 n) (words numbers) s) in
    let next : at + 4 * (j + 1) ≡ at + 4 * j + 4 = omega arith in
    let rest : map (λ k. word_at bytes (at + 4 * k)) (range_with_len (j + 1) (length numbers))
    ≡ numbers = words_from bytes at (j + 1) numbers fit.1 (stands_next bytes (at + 4 * j)
    (at + 4 * (j + 1)) (to_le_bytes w32 n) (words numbers) next s) in
    rw (first, rest) refl

pub stands_words : (bytes : List ℕ) (at count : ℕ) (numbers : List ℕ) → length numbers ≡ count
    → AllByRecursion (λ n. n < 2 ^ 32) numbers → Stands bytes at (words numbers)
    → words_at bytes at count ≡ numbers
stands_words bytes at count numbers e fit s =
    let start : at + 4 * 0 ≡ at = omega arith in
    rw (← e) (words_from bytes at 0 numbers fit (subst (λ a. Stands bytes a (words numbers)) (sym start) s))

-- a piece of a file: so many bytes from a place on
abbrev pub piece : List ℕ → (at n : ℕ) → List ℕ
piece bytes at n = take n (drop at bytes)

-- pieces that stand in a row are one
pub joined : (bytes : List ℕ) (at n next m both : ℕ) → next ≡ at + n → both ≡ n + m
    → piece bytes at n ++ piece bytes next m ≡ piece bytes at both
joined bytes at n next m both e f = rw (e, f, ← drop-drop n at bytes) (sym (take-add n m (drop at bytes)))

pub length_piece : (bytes : List ℕ) (at n : ℕ) → at + n ≤ length bytes → length (piece bytes at n) ≡ n
length_piece bytes at n within = length-take-le n (drop at bytes) (omega (arith, length-drop at bytes))

-- each of the bytes is one
pub byte_below : (bytes : List ℕ) → AllByRecursion (λ b. b < 256) bytes → (i : ℕ) → get_or bytes i 0 < 256
byte_below [] fit i = lit< tt
byte_below (b ∷ bytes) fit zero = fit.0
byte_below (b ∷ bytes) fit (suc i) = byte_below bytes fit.1 i

drop_fits : (n : ℕ) (bytes : List ℕ) → AllByRecursion (λ b. b < 256) bytes
    → AllByRecursion (λ b. b < 256) (drop n bytes)
drop_fits zero bytes fit = fit
drop_fits (suc n) [] fit = tt
drop_fits (suc n) (b ∷ bytes) fit = drop_fits n bytes fit.1

take_fits : (n : ℕ) (bytes : List ℕ) → AllByRecursion (λ b. b < 256) bytes
    → AllByRecursion (λ b. b < 256) (take n bytes)
take_fits zero bytes fit = tt
take_fits (suc n) [] fit = tt
take_fits (suc n) (b ∷ bytes) fit = (fit.0, take_fits n bytes fit.1)

pub piece_below : (bytes : List ℕ) (at n : ℕ) → AllByRecursion (λ b. b < 256) bytes → (i : ℕ)
    → get_or (piece bytes at n) i 0 < 256
piece_below bytes at n fit = byte_below (piece bytes at n) (take_fits n (drop at bytes) (drop_fits at bytes fit))

-- the words that are read are the bytes again
again_from : (bytes : List ℕ) (at j count : ℕ) → AllByRecursion (λ b. b < 256) bytes
    → at + 4 * j + 4 * count ≤ length bytes → words (map (λ k. word_at bytes (at + 4 * k))
    (range_with_len j count)) ≡ piece bytes (at + 4 * j) (4 * count)
again_from bytes at j zero fit within = refl
again_from bytes at j (suc count) fit within =
    let first : to_le_bytes w32 (word_at bytes (at + 4 * j)) ≡ piece bytes (at + 4 * j) 4 =
    le_bytes_4 (piece bytes (at + 4 * j) 4) (word_at bytes (at + 4 * j))
    (length_piece bytes (at + 4 * j) 4 (omega arith)) (piece_below bytes (at + 4 * j) 4 fit) refl in
    let rest : words (map (λ k. word_at bytes (at + 4 * k)) (range_with_len (j + 1) count)) ≡ piece
    bytes (at + 4 * (j + 1)) (4 * count) = again_from bytes at (j + 1) count fit (omega arith) in
    ap (λ xs. xs ++ words (map (λ k. word_at bytes (at + 4 * k)) (range_with_len (j + 1) count))) first
    ∙ ap (λ ys. piece bytes (at + 4 * j) 4 ++ ys) rest
    ∙ joined bytes (at + 4 * j) 4 (at + 4 * (j + 1)) (4 * count) (4 * suc count) (omega arith) (omega arith)

pub words_again : (bytes : List ℕ) (at count : ℕ) → AllByRecursion (λ b. b < 256) bytes
    → at + 4 * count ≤ length bytes → words (words_at bytes at count) ≡ piece bytes at (4 * count)
words_again bytes at count fit within =
    let start : at + 4 * 0 ≡ at = omega arith in
    again_from bytes at 0 count fit (omega arith) ∙ ap (λ a. piece bytes a (4 * count)) start
