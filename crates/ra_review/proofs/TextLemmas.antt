-- Words and numbers, put at the end of a text.
use Rattle.std.proofs.Common.{◌≡◌, ◌∙◌, ℕ, ◌-◌, min, List, ◌++◌, length, map, take, drop, replicate, ap, arith}
use Rattle.std.proofs.Common.{append_assoc, length-take}
use Rattle.std.proofs.Math.Seq.{take-length}
use Rattle.std.proofs.lemmas.List.{length-map, take_min}
use Rattle.ra_review.specs.Shown.{shown, shown_byte, blanks_at}

-- three words with a number each, and an end
pub three_numbers : (out w a x b y c last : List ℕ) → (((((((out ++ w) ++ a) ++ x) ++ b) ++ y) ++ c)
    ++ last) ≡ out ++ ((((((w ++ a) ++ x) ++ b) ++ y) ++ c) ++ last)
three_numbers out w a x b y c last = simp append_assoc

-- the bytes that are shown are the first ones
pub shown_front : (front bytes : List ℕ) (index : ℕ) → front ≡ take (min 120 (length bytes)) bytes
    → index ≡ length front → map shown_byte (take index front) ≡ shown bytes
shown_front front bytes index is all =
    ap (map shown_byte) (ap (λ i. take i front) all ∙ take-length front ∙ is ∙ take_min 120 bytes)

-- as many blanks as bytes are shown before the place
pub blanks_before : (place start : ℕ) (line left : List ℕ) → start ≡ place - 60 → left ≡ drop start line
    → replicate (min (min (place - start) (length left)) 120) 32 ≡ blanks_at place line
blanks_before place start line left is_start is_left =
    let here : left ≡ drop (place - 60) line = is_left ∙ ap (λ n. drop n line) is_start in
    let count : min (min (place - start) (length left)) 120 ≡ length (take (place - (place - 60)) (shown left)) =
    omega (
      arith,
      is_start,
      length-take (place - (place - 60)) (shown left),
      length-map (take 120 left) shown_byte,
      length-take 120 left,
    ) in
    ap (λ n. replicate n 32) (count ∙ ap (λ t. length (take (place - (place - 60)) (shown t))) here)
