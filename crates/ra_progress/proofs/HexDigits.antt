-- A byte in two hexadecimal digits, with a zero in front.
use Rattle.std.proofs.Common.{◌≡◌, ℕ, Option, Some, ◌-◌, ◌^◌, ◌/◌, ◌%◌, ◌<◌, false, List, [], ◌∷◌, ◌++◌, length, take}
use Rattle.std.proofs.Common.{get_or, ◌+◌, replicate, ap, sym, ◌∙◌, inl, inr, append-nil, arith}
use Rattle.std.specs.Option.{option_map}
use Rattle.std.specs.Fmt.{padded_integral, char_count, format_spec, digits}
use Rattle.std.proofs.DigitsParse.{digits_onto-nil, digits_onto_step, digits_onto_last}
use Rattle.std.proofs.lemmas.List.{take_more, flat_map_more}
use Rattle.std.proofs.lemmas.Bool.{cases_lt}
use Rattle.ra_progress.specs.Refusals.{hex, hex_byte, hex_digit}

-- the digits of a byte, written with a zero in front where there is one alone
with_zero : (n : ℕ) → n < 256 → replicate (2 - length (digits 16 false n)) 48 ++ digits 16 false n ≡ hex_byte n
with_zero n small = elim (cases_lt n 16) [
  | inl one ↦
      let is : digits 16 false n ≡ hex_digit (n % 16) ∷ [] = sym (digits_onto-nil 16 false n)
      ∙ digits_onto_last 16 false n [] 64 (omega arith) (omega arith) in
      let none : n / 16 ≡ 0 = omega arith in
      rw (is, none)
  | inr more ↦
      let is : digits 16 false n ≡ hex_digit (n / 16 % 16) ∷ hex_digit (n % 16) ∷ [] =
      sym (digits_onto-nil 16 false n) ∙ digits_onto_step 16 false n [] 64 (omega arith) (omega arith)
      ∙ digits_onto_last 16 false (n / 16) (hex_digit (n % 16) ∷ []) 63 (omega arith) (omega arith) in
      let high : n / 16 % 16 ≡ n / 16 = omega arith in
      rw (is, high)
]

-- what a hole of two digits with a zero writes
two_written : (n : ℕ) → n < 256
    → padded_integral (format_spec 32 0 4 2 (2 ^ 64 - 1)) false [] (digits 16 false n) ≡ hex_byte n
unfolding padded_integral char_count
two_written n small =
    let numeral = digits 16 false n in
    let same : 2 - length numeral - 0 - 0 ≡ 2 - length numeral = omega arith in
    rw (same, append-nil) (with_zero n small)

-- the same where the digits may not be told
pub two_styled : (output : Option (List ℕ)) (n : ℕ) → n < 256 → output ≡ Some (digits 16 false n)
    → option_map (padded_integral (format_spec 32 0 4 2 (2 ^ 64 - 1)) false []) output
    ≡ Some (hex_byte n)
two_styled output n small is = ap (λ o. option_map (padded_integral
    (format_spec 32 0 4 2 (2 ^ 64 - 1)) false []) o) is ∙ ap (λ t. Some t) (two_written n small)

-- the digits of one byte more
pub hex_more : (bytes : List ℕ) (at : ℕ) → at < length bytes
    → hex (take at bytes) ++ hex_byte (get_or bytes at 0) ≡ hex (take (at + 1) bytes)
hex_more bytes at below =
    flat_map_more hex_byte [] (take at bytes) (get_or bytes at 0) ∙ ap hex (sym (take_more bytes at 0 below))
