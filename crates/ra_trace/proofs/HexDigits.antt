-- Four hexadecimal digits, with zeros in front.
use Rattle.std.proofs.Common.{◌≡◌, ℕ, Option, Some, ◌-◌, ◌^◌, ◌/◌, ◌%◌, ◌<◌, ◌≤◌, false, List, [], ◌∷◌, ◌++◌, length}
use Rattle.std.proofs.Common.{replicate, ap, sym, ◌∙◌, inl, inr, append-nil, arith}
use Rattle.std.specs.Option.{option_map}
use Rattle.std.specs.Fmt.{padded_integral, char_count, format_spec, digits}
use Rattle.std.proofs.DigitsParse.{digits_onto-nil, digits_onto_step, digits_onto_last}
use Rattle.std.proofs.lemmas.Bool.{cases_lt}
use Rattle.ra_trace.specs.Workload.{hex_digit, hex4}

-- the digits of a number of one, two, three and four of them
one_digit : (n : ℕ) → n < 16 → digits 16 false n ≡ hex_digit (n % 16) ∷ []
one_digit n small = sym (digits_onto-nil 16 false n) ∙ digits_onto_last 16 false n [] 64 (omega arith) (omega arith)

two_digits : (n : ℕ) → 16 ≤ n → n < 256 → digits 16 false n ≡ hex_digit (n / 16 % 16) ∷ hex_digit (n % 16) ∷ []
two_digits n large small =
    sym (digits_onto-nil 16 false n) ∙ digits_onto_step 16 false n [] 64 (omega arith) (omega arith)
    ∙ digits_onto_last 16 false (n / 16) (hex_digit (n % 16) ∷ []) 63 (omega arith) (omega arith)

three_digits : (n : ℕ) → 256 ≤ n → n < 4096 → digits 16 false n
    ≡ hex_digit (n / 256 % 16) ∷ hex_digit (n / 16 % 16) ∷ hex_digit (n % 16) ∷ []
three_digits n large small =
    let shift : n / 16 / 16 ≡ n / 256 = omega arith in
    sym (digits_onto-nil 16 false n) ∙ digits_onto_step 16 false n [] 64 (omega arith) (omega arith)
    ∙ digits_onto_step 16 false (n / 16) (hex_digit (n % 16) ∷ []) 63 (omega arith) (omega arith)
    ∙ digits_onto_last 16 false (n / 16 / 16) (hex_digit (n / 16 % 16) ∷ hex_digit (n % 16) ∷ []) 62
    (omega arith) (omega arith)
    ∙ ap (λ d. hex_digit (d % 16) ∷ hex_digit (n / 16 % 16) ∷ hex_digit (n % 16) ∷ []) shift

four_digits : (n : ℕ) → 4096 ≤ n → n < 65536 → digits 16 false n ≡ hex4 n
four_digits n large small =
    let two : n / 16 / 16 ≡ n / 256 = omega arith in
    let three : n / 256 / 16 ≡ n / 4096 = omega arith in
    sym (digits_onto-nil 16 false n) ∙ digits_onto_step 16 false n [] 64 (omega arith) (omega arith)
    ∙ digits_onto_step 16 false (n / 16) (hex_digit (n % 16) ∷ []) 63 (omega arith) (omega arith)
    ∙ digits_onto_step 16 false (n / 16 / 16) (hex_digit (n / 16 % 16) ∷ hex_digit (n % 16) ∷ []) 62
    (omega arith) (omega arith)
    ∙ digits_onto_last 16 false (n / 16 / 16 / 16) (hex_digit (n / 16 / 16 % 16)
    ∷ hex_digit (n / 16 % 16) ∷ hex_digit (n % 16) ∷ []) 61 (omega arith) (omega arith)
    ∙ rw (two, three)

-- zeros in front make them four
pub with_zeros : (n : ℕ) → n < 65536 → replicate (4 - length (digits 16 false n)) 48 ++ digits 16 false n ≡ hex4 n
with_zeros n small = elim (cases_lt n 16) [
  | inl one ↦ (let a : n / 4096 ≡ 0 = omega arith in let b : n / 256 ≡ 0 = omega arith in
      let c : n / 16 ≡ 0 = omega arith in rw (one_digit n one, a, b, c))
  | inr more ↦ elim (cases_lt n 256) [
    | inl two ↦ (let a : n / 4096 ≡ 0 = omega arith in let b : n / 256 ≡ 0 = omega arith in
        rw (two_digits n more two, a, b))
    | inr more' ↦ elim (cases_lt n 4096) [
      | inl three ↦ (let a : n / 4096 ≡ 0 = omega arith in rw (three_digits n more' three, a))
      | inr four ↦ rw (four_digits n four small)
    ]
  ]
]

-- what a hole of four digits with zeros writes
four_written : (n : ℕ) → n < 65536
    → padded_integral (format_spec 32 0 4 4 (2 ^ 64 - 1)) false [] (digits 16 false n) ≡ hex4 n
unfolding padded_integral char_count
four_written n small =
    let numeral = digits 16 false n in
    let same : 4 - length numeral - 0 - 0 ≡ 4 - length numeral = omega arith in
    rw (same, append-nil) (with_zeros n small)

-- the same where the digits may not be told
pub four_styled : (output : Option (List ℕ)) (n : ℕ) → n < 65536 → output ≡ Some (digits 16 false n)
    → option_map (padded_integral (format_spec 32 0 4 4 (2 ^ 64 - 1)) false []) output
    ≡ Some (hex4 n)
four_styled output n small is = ap (λ o. option_map (padded_integral
    (format_spec 32 0 4 4 (2 ^ 64 - 1)) false []) o) is ∙ ap (λ t. Some t) (four_written n small)
