-- Numbers: docs/DEFINITIONS.md, "Numbers in text".
use Rattle.std.specs.Prelude.{◌≡◌, ℕ, ◌+◌, ◌-◌, ◌*◌, ◌%◌, min, Bool, true, false, if◌then◌else◌, List, [], ◌∷◌, ◌++◌}
use Rattle.std.specs.Prelude.{Option, Some, codes}
use Rattle.ra_text.specs.declared.base.Base.{Base}
use Rattle.ra_text.specs.declared.base.Base.TheVariants.{Ten, Sixteen}
use Rattle.ra_text.specs.Form.{Form, Spell, One, ◌>>=◌, optional}
use Rattle.ra_text.specs.Reading.{begins}
use Rattle.ra_text.specs.Table.{lookup, bytes_for, is_in}

-- each of the bytes with its number, counted from this one on
abbrev pub counted_from : ℕ → List ℕ → List (ℕ × ℕ)
counted_from n [] = []
counted_from n (byte ∷ others) = (byte, n) ∷ counted_from (n + 1) others

-- the digits 0 to 9 with their numbers
abbrev pub digits : List (ℕ × ℕ)
digits = counted_from 0 (codes "0123456789")

-- the digits 0 to 9 and a to f, in either case, with their numbers
abbrev pub hex_digits : List (ℕ × ℕ)
hex_digits = digits ++ (counted_from 10 (codes "abcdef") ++ counted_from 10 (codes "ABCDEF"))

-- the number that a digit of the base stands for
abbrev pub digit_of : Base → ℕ → Option ℕ
digit_of Ten = lookup digits
digit_of Sixteen = lookup hex_digits

-- how many digits a base has
abbrev pub base_of : Base → ℕ
base_of Ten = 10
base_of Sixteen = 16

-- more digits of a base, where those before give the number so far
abbrev pub Digits : (ℕ → Option ℕ) → ℕ → ℕ → Form ℕ ℕ
Digits table base so_far [] n = n ≡ so_far
Digits table base so_far (byte ∷ rest) n =
    (d : ℕ) × (table byte ≡ Some d) × Digits table base (so_far * base + d) rest n

-- digit { digit }, of a base
abbrev pub numeral : (ℕ → Option ℕ) → ℕ → Form ℕ ℕ
numeral table base = do
  d ← One table
  Digits table base d

-- a number that is not negative as it is kept: at most the greatest of 32 bits
abbrev pub saturated : ℕ → ℕ
saturated n = min n 4294967295

-- dec, saturated
abbrev pub decimal : Form ℕ ℕ
decimal = do
  n ← numeral (lookup digits) 10
  Spell (saturated n)

-- hexnum, saturated
abbrev pub hexadecimal : Form ℕ ℕ
hexadecimal = do
  n ← numeral (lookup hex_digits) 16
  Spell (saturated n)

-- the two signs, and whether each is a minus
abbrev pub signs : List (ℕ × Bool)
signs = bytes_for (codes "+") false ++ bytes_for (codes "-") true

-- [ "+" | "-" ], and whether it is a minus
abbrev pub sign : Form ℕ Bool
sign = optional (lookup signs) false

-- a number as it is kept by its sign: a negative one is at least -2147483648, in two's complement of 32 bits
abbrev pub with_sign : Bool → ℕ → ℕ
with_sign negative n = if negative then (4294967296 - min n 2147483648) % 4294967296 else saturated n

-- [ "+" | "-" ] dec
abbrev pub signed : Form ℕ ℕ
signed = do
  negative ← sign
  n ← numeral (lookup digits) 10
  Spell (with_sign negative n)

-- the text without one sign before it
abbrev pub behind_sign : List ℕ → List ℕ
behind_sign [] = []
behind_sign (byte ∷ text) = if is_in (lookup signs) byte then text else byte ∷ text

-- the text begins with a byte of the table
abbrev pub BeginsIn : {V : Type 0} → (ℕ → Option V) → List ℕ → Type 0
BeginsIn table text = begins (is_in table) text ≡ true
