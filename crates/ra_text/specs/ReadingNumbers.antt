-- Reading numbers from left to right: the step between the code and docs/DEFINITIONS.md, "Numbers in text".
use Rattle.std.specs.Prelude.{ℕ, ◌+◌, ◌*◌, false, List, [], ◌∷◌, Option, Some, None, Ok}
use Rattle.ra_text.specs.declared.base.Base.{Base}
use Rattle.ra_text.specs.declared.base.Base.TheVariants.{Ten, Sixteen}
use Rattle.ra_text.specs.Reading.{Outcome, ◌>>=◌, one_at, optional_at}
use Rattle.ra_text.specs.Table.{lookup}
use Rattle.ra_text.specs.Number.{digit_of, base_of, saturated, signs, with_sign}

-- the number so far with all digits that stand next
abbrev pub digits_at : (ℕ → Option ℕ) → ℕ → ℕ → List ℕ → Outcome ℕ ℕ
digits_at table base so_far [] = Ok (so_far, [])
digits_at table base so_far (byte ∷ rest) = elim (table byte) [
  | Some d ↦
      digits_at table base (so_far * base + d) rest
  | None ↦ Ok (so_far, byte ∷ rest)
]

-- a digit, and all digits that stand next
unfoldable pub numeral_at : (ℕ → Option ℕ) → ℕ → List ℕ → Outcome ℕ ℕ
numeral_at table base text = do
  d ← one_at table text
  digits_at table base d.0 d.1

-- a number of the base, at most the greatest of 32 bits
unfoldable pub saturated_at : Base → List ℕ → Outcome ℕ ℕ
saturated_at base text = do
  n ← numeral_at (digit_of base) (base_of base) text
  Ok (saturated n.0, n.1)

-- dec
abbrev pub decimal_at : List ℕ → Outcome ℕ ℕ
decimal_at = saturated_at Ten

-- hexnum
abbrev pub hexadecimal_at : List ℕ → Outcome ℕ ℕ
hexadecimal_at = saturated_at Sixteen

-- [+ | -] dec
unfoldable pub signed_at : List ℕ → Outcome ℕ ℕ
signed_at text = do
  negative ← optional_at (lookup signs) false text
  n ← decimal_at negative.1
  Ok (with_sign negative.0 n.0, n.1)
