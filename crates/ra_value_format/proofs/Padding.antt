-- What a hole with a width and zeros writes of a number.
use Rattle.std.proofs.Common.{◌≡◌, ℕ, suc, ◌-◌, ◌^◌, ◌/◌, ◌%◌, ◌<◌, ◌≤◌, true, false, List, [], ◌∷◌, ◌++◌, length}
use Rattle.std.proofs.Common.{replicate, refl, append-nil, arith, ℤ, pos, negsuc}
use Rattle.std.specs.Fmt.{padded_integral, char_count, format_spec, styled_decimal, styled_signed_decimal, decimal}
use Rattle.std.proofs.lemmas.Bool.{lt-ltb, le-ltb}
use Rattle.ra_value_format.specs.Formats.{with_zeros, score_text, seconds_text}

-- zeros stand before the digits of a number without sign
padded_zeros : (width : ℕ) (numeral : List ℕ) → padded_integral (format_spec 32 0 4 width
    (2 ^ 64 - 1)) false [] numeral ≡ replicate (width - length numeral) 48 ++ numeral
unfolding padded_integral char_count
padded_zeros width numeral =
    let e : width - length numeral - 0 - 0 ≡ width - length numeral = omega arith in
    rw (padded_integral, e, append-nil) refl

-- and after the sign of a negative one, which counts
padded_signed : (width : ℕ) (numeral : List ℕ) → padded_integral (format_spec 32 0 4 (suc width)
    (2 ^ 64 - 1)) true [] numeral ≡ 45 ∷ (replicate (width - length numeral) 48 ++ numeral)
unfolding padded_integral char_count
padded_signed width numeral =
    let e : suc width - length numeral - 1 - 0 ≡ width - length numeral = omega arith in
    rw (e, append-nil) refl

pub one_digit : (n : ℕ) → styled_decimal (format_spec 32 0 4 1 (2 ^ 64 - 1)) n ≡ with_zeros 1 n
one_digit n = padded_zeros 1 (decimal n)

pub two_digits : (n : ℕ) → styled_decimal (format_spec 32 0 4 2 (2 ^ 64 - 1)) n ≡ with_zeros 2 n
two_digits n = padded_zeros 2 (decimal n)

pub three_digits : (n : ℕ) → styled_decimal (format_spec 32 0 4 3 (2 ^ 64 - 1)) n ≡ with_zeros 3 n
three_digits n = padded_zeros 3 (decimal n)

pub score_written : (v : ℤ) → styled_signed_decimal (format_spec 32 0 4 6 (2 ^ 64 - 1)) v ≡ score_text v
score_written (pos n) = rw (le-ltb n 0 (omega arith)) (padded_zeros 6 (decimal n))
score_written (negsuc n) = padded_signed 5 (decimal (suc n))

-- the text of seconds below one hour, and from there on
pub below_an_hour : (s : ℕ) → s < 3600 → decimal (s / 60) ++ 58 ∷ with_zeros 2 (s % 60) ≡ seconds_text s
below_an_hour s below = rw (lt-ltb s 3600 below) refl

pub from_an_hour : (s : ℕ) → 3600 ≤ s → decimal (s / 3600) ++ 104
    ∷ (with_zeros 2 (s / 60 % 60) ++ 58 ∷ with_zeros 2 (s % 60)) ≡ seconds_text s
from_an_hour s above = rw (le-ltb s 3600 above) refl
