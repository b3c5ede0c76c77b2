-- Decimal texts of numbers of 32 bits.
use Rattle.std.proofs.Common.{ℕ, ◌≡◌, ◌≢◌, ◌<◌, ◌+◌, ◌-◌, ◌*◌, ◌^◌, List, [], ◌∷◌, length, Some, None, Result, Ok, Err}
use Rattle.std.proofs.Common.{true, false, rules, arith, refl, slice_index, ◌==◌, inl, inr, ap}
use Rattle.std.specs.Prelude.{decimal, fold}
use Rattle.std.specs.Str.{all_ascii_digits}
use Rattle.std.specs.Str.Parse.{ParsesUnsigned}
use Rattle.std.specs.Result.{result_ok}
use Rattle.std.proofs.lemmas.Bool.{false_from_ne_true, cases_lt, ne_eqb}
use Rattle.std.proofs.lemmas.Str.Parse.{IsNumeralModel, numerals_by_fold, parse_plain, not_in_digits}
use Rattle.std.proofs.lemmas.Fmt.{decimal-digits_value, digits_decimal, digits_value-decimal, decimal_nonempty}
use Rattle.std.proofs.lemmas.Fmt.{first_decimal, decimal_digit}
use Rattle.ra_args.specs.JobWords.{number_in, is_number, number_of}

-- digits, and the number that they spell
own : IsNumeralModel (λ ds. all_ascii_digits ds ≡ true) number_in
own = numerals_by_fold _ (search rules) (λ n ds. fold (λ m c. m * 10 + (c - 48)) n ds) (search rules)

-- a word that is a number is the decimal text of it
number_text : (w : List ℕ) → is_number w ≡ true → (number_in w < 2 ^ 32) × (w ≡ decimal (number_in w))
number_text w h = search rules

-- the decimal text of a number of 32 bits is one
is_number_from : (w : List ℕ) → number_in w < 2 ^ 32 → decimal (number_in w) ≡ w → is_number w ≡ true
is_number_from w small e = search rules

-- a word that is no number's text is no number
not_number : (w : List ℕ) → ((n : ℕ) → n < 2 ^ 32 → w ≡ decimal n → ⊥) → is_number w ≡ false
not_number w other = false_from_ne_true (is_number w) (λ yes. let t = number_text w yes in other (number_in w) t.0 t.1)

-- the text of a number that begins with a zero is that zero
zero_is_short : (n : ℕ) → n < 2 ^ 32 → slice_index (decimal n) 0 ≡ 48 → 1 < length (decimal n) → ⊥
zero_is_short n small h long = elim (cases_lt 0 n) [
  | inl some ↦ omega (arith, first_decimal n some (omega (arith, small)), h)
  | inr none ↦ let one : length (decimal n) ≡ 1 = rw (decimal_digit n (omega (arith, none))) refl in
      omega (arith, one, long)
]

-- what stands for a word that is no number
module _ (w : List ℕ) where
  none_of : is_number w ≡ false → None ≡ number_of w
  none_of h = rw h refl

  -- no number has a sign
  pub signed : slice_index w 0 ≡ 43 → None ≡ number_of w
  signed h = none_of (not_number w (λ n small e. not_in_digits own (decimal n) 43
      (digits_decimal own n (omega (arith, small))) (λ r. omega (arith, r)) 0
      (decimal_nonempty n (omega (arith, small))) (rw (← e) h)))

  -- only the number 0 begins with a zero
  pub padded : slice_index w 0 ≡ 48 → 1 < length w → None ≡ number_of w
  padded h long = none_of (not_number w (λ n small e. zero_is_short n small (rw (← e) h) (rw (← e) long)))

  -- no number is empty
  pub empty : length w ≡ 0 → None ≡ number_of w
  empty h = none_of (not_number w (λ n small e. let some = decimal_nonempty n (omega (arith, small))
      in let none : length (decimal n) ≡ 0 = rw (← e) h in omega (arith, some, none)))

-- what `parse` gives for a word with no sign, and with no zero before other digits
pub parsed : {E : Type 0} (w : List ℕ) (r : Result ℕ E) → ParsesUnsigned 32 10 w r → slice_index w 0
    ≢ 43 → (slice_index w 0 ≡ 48 → length w ≡ 1)
    → result_ok r ≡ number_of w
parsed {E} w (Ok x) h plain unpadded =
    let p = parse_plain own {E = E} 32 w (Ok x) h plain in
    let text : decimal (number_in w) ≡ w = decimal-digits_value own w p.0.0 p.0.1 unpadded (omega (arith, p.0.2)) in
    let is : is_number w ≡ true = is_number_from w p.0.2 text in
    rw is (ap (λ (n : ℕ). Some n) p.1)
parsed w (Err e) h plain unpadded =
    let p = parse_plain own 32 w (Err e) h plain in
    none_of w (not_number w (λ n small e. p (
      rw e (digits_decimal own n (omega (arith, small))),
      rw e (decimal_nonempty n (omega (arith, small))),
      rw (e, digits_value-decimal own n (omega (arith, small))) small,
    )))

-- no number begins with `-`
pub dashed : (c : ℕ) (cs : List ℕ) → is_number (c ∷ cs) ≡ true → (c == 45) ≡ false
dashed c cs h =
    let t = number_text (c ∷ cs) h in
    let n = number_in (c ∷ cs) in
    ne_eqb c 45 (λ e. not_in_digits own (decimal n) 45 (digits_decimal own n (omega (arith, t.0)))
    (λ r. omega (arith, r)) 0 (decimal_nonempty n (omega (arith, t.0))) (rw (← t.1) e))

-- the empty word is no number
pub nothing : is_number [] ≡ true → ⊥
nothing h = let t = number_text [] h in let some =
    decimal_nonempty (number_in []) (omega (arith, t.0)) in
    let none : length (decimal (number_in [])) ≡ 0 = rw (← t.1) refl in omega (arith, some, none)
