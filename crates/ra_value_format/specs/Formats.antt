-- The text of a number in each format: docs/DEFINITIONS.md, "Formats".
use Rattle.std.specs.Prelude.{ℕ, ◌≤◌, ◌-◌, ◌*◌, ◌/◌, ◌%◌, ◌^◌, if◌then◌else◌, nat_lt, List, [], ◌∷◌, ◌++◌, length}
use Rattle.std.specs.Prelude.{replicate, Option, Some, None, codes, bytes_eq, decimal, ℤ, pos, negsuc, ◌*ℤ◌, suc}
use Rattle.std.specs.Fmt.{signed_decimal}
use Rattle.std.specs.Int.{w32, cast_unsigned}
use Rattle.ra_value_format.specs.declared.format.Format.{Format}
use Rattle.ra_value_format.specs.declared.format.Format.TheVariants.{Value, Score, Frames, Secs, Hundredths, Minutes}
use Rattle.ra_value_format.specs.declared.format.Format.TheVariants.{SecsAsMins, Unsigned, Tens, Hundreds, Thousands}
use Rattle.ra_value_format.specs.declared.format.Format.TheVariants.{Fixed, Float}

-- a number in decimal, with zeros before it to this many digits
abbrev pub with_zeros : ℕ → ℕ → List ℕ
with_zeros digits n = replicate (digits - length (decimal n)) 48 ++ decimal n

-- a score: six characters with leading zeros, the sign one of them
abbrev pub score_text : ℤ → List ℕ
score_text (pos n) = with_zeros 6 n
score_text (negsuc n) = 45 ∷ with_zeros 5 (suc n)

-- the seconds form of a number: minutes and seconds, with hours from one hour on
abbrev pub seconds_text : ℕ → List ℕ
seconds_text s =
    if nat_lt s 3600 then decimal (s / 60) ++ 58 ∷ with_zeros 2 (s % 60)
    else decimal (s / 3600) ++ 104 ∷ (with_zeros 2 (s / 60 % 60) ++ 58 ∷ with_zeros 2 (s % 60))

-- the hundredths form of a number: seconds and hundredths
abbrev pub hundredths_text : ℕ → List ℕ
hundredths_text c = seconds_text (c / 100) ++ 46 ∷ with_zeros 2 (c % 100)

-- the minutes form of a number: hours and minutes
abbrev pub minutes_text : ℕ → List ℕ
minutes_text n = decimal (n / 60) ++ 104 ∷ with_zeros 2 (n % 60)

-- a number without sign, with this many of its digits as decimals
abbrev pub decimals_text : ℕ → ℕ → List ℕ
decimals_text digits n = decimal (n / 10 ^ digits) ++ 46 ∷ with_zeros digits (n % 10 ^ digits)

-- a signed number with this many of its digits as decimals, after its sign where it is negative
abbrev pub fixed_text : ℕ → ℤ → List ℕ
fixed_text digits (pos n) = decimals_text digits n
fixed_text digits (negsuc n) = 45 ∷ decimals_text digits (suc n)

-- the text of a signed number; some formats read its 32 bits without sign
abbrev pub formatted : Format → ℤ → List ℕ
formatted Value v = signed_decimal v
formatted Score v = score_text v
formatted Frames v = hundredths_text (cast_unsigned w32 v * 10 / 6)
formatted Secs v = seconds_text (cast_unsigned w32 v)
formatted Hundredths v = hundredths_text (cast_unsigned w32 v)
formatted Minutes v = minutes_text (cast_unsigned w32 v)
formatted SecsAsMins v = minutes_text (cast_unsigned w32 v / 60)
formatted Unsigned v = decimal (cast_unsigned w32 v)
formatted Tens v = signed_decimal (v *ℤ pos 10)
formatted Hundreds v = signed_decimal (v *ℤ pos 100)
formatted Thousands v = signed_decimal (v *ℤ pos 1000)
formatted (Fixed digits) v = fixed_text digits v
formatted (Float zeros) v = signed_decimal v ++ 46 ∷ replicate zeros 48

-- the formats with zeros after the point, by name
abbrev pub float_names : List (List ℕ × Format)
float_names =
    (codes "FLOAT1", Float 1) ∷ (codes "FLOAT2", Float 2) ∷ (codes "FLOAT3", Float 3)
    ∷ (codes "FLOAT4", Float 4) ∷ (codes "FLOAT5", Float 5) ∷ (codes "FLOAT6", Float 6) ∷ []

-- the formats that move the point or put zeros after it, by name
abbrev pub scaled_names : List (List ℕ × Format)
scaled_names =
    (codes "TENS", Tens) ∷ (codes "HUNDREDS", Hundreds) ∷ (codes "THOUSANDS", Thousands)
    ∷ (codes "FIXED1", Fixed 1) ∷ (codes "FIXED2", Fixed 2) ∷ (codes "FIXED3", Fixed 3) ∷ float_names

-- all formats by name; every other name is that of Value
abbrev pub format_names : List (List ℕ × Format)
format_names =
    (codes "SCORE", Score) ∷ (codes "POINTS", Score) ∷ (codes "OTHER", Score) ∷ (codes "UNSIGNED", Unsigned)
    ∷ (codes "FRAMES", Frames) ∷ (codes "TIME", Frames) ∷ (codes "MILLISECS", Hundredths)
    ∷ (codes "SECS", Secs) ∷ (codes "TIMESECS", Secs) ∷ (codes "MINUTES", Minutes) ∷ (codes "SECS_AS_MINS", SecsAsMins)
    ∷ scaled_names

-- the entry under a name, if there is one
abbrev pub entry_of : {A : Type 0} → List ℕ → List (List ℕ × A) → Option A
entry_of name [] = None
entry_of name (entry ∷ entries) = if bytes_eq entry.0 name then Some entry.1 else entry_of name entries

-- the format, and Value where there is none
abbrev pub named_format : Option Format → Format
named_format None = Value
named_format (Some format) = format

-- the format of a name
abbrev pub format_of_name : List ℕ → Format
format_of_name name = named_format (entry_of name format_names)

-- some name gives the format: it has as many digits as a name can say
abbrev pub HasDigits : Format → Type 0
HasDigits (Fixed digits) = (1 ≤ digits) × (digits ≤ 3)
HasDigits (Float zeros) = (1 ≤ zeros) × (zeros ≤ 6)
HasDigits _ = Unit {0}
