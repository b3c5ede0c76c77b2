-- A range of a tree holds each value of the tree.
use Rattle.std.proofs.Common.{◌≡◌, ℕ, zero, suc, ◌+◌, ◌-◌, ◌*◌, ◌/◌, ◌%◌, ◌^◌, ◌<◌, ◌≤◌, min, Bool, true, false, cond}
use Rattle.std.proofs.Common.{eqb, leb, ◌&&◌, bit_and, bit_xor, refl, ap₂, arith}
use Rattle.std.proofs.lemmas.Nat.{and_le_l, and_le_r, xor_lt, xor_of_32, mod_below, le-div, mul-le, ones-le}
use Rattle.std.proofs.Math.Nat.{div-le_self, div-mul-le_self, mod-le}
use Rattle.std.proofs.lemmas.Bool.{leb-true, eqb-true, false≢true}
use Rattle.ra_operand.specs.declared.size.Size.{Size}
use Rattle.ra_operand.specs.declared.size.Size.TheVariants.{Bit0, Bit1, Bit2, Bit3, Bit4, Bit5, Bit6, Bit7, Low, High}
use Rattle.ra_operand.specs.declared.size.Size.TheVariants.{Byte, Two, Three, Four, Count, TwoBig, ThreeBig, FourBig}
use Rattle.ra_operand.specs.declared.kind.Kind.{Kind}
use Rattle.ra_operand.specs.declared.kind.Kind.TheVariants.{Mem, Delta, Prior, Bcd, Inverted}
use Rattle.ra_operand.specs.declared.op.Op.{Op}
use Rattle.ra_operand.specs.declared.op.Op.TheVariants.{Mul, Div, And, Xor, Rem, Add, Sub}
use Rattle.ra_operand.specs.Views.{reversed, view_of, bits_of, as_decimal, transformed}
use Rattle.ra_operand.specs.Operators.{computed}
use Rattle.ra_lint.specs.declared.range.Range.{Range}
use Rattle.ra_lint.specs.Ranges.{range, any_number, is_single, most_of, view_range, joined_range, operator_range}
use Rattle.ra_lint.specs.Sound.{IsIn}

-- ---- views

-- reversed bytes are as many bytes
reversed_2 : (n : ℕ) → reversed 2 n ≤ 65535
reversed_2 n = omega (arith, mod_below n 256 (omega arith), mod_below (n / 256) 256 (omega arith))

reversed_3 : (n : ℕ) → reversed 3 n ≤ 16777215
reversed_3 n = omega (
  arith,
  mod_below n 256 (omega arith),
  mod_below (n / 256) 256 (omega arith),
  mod_below (n / 256 / 256) 256 (omega arith),
)

reversed_4 : (n : ℕ) → reversed 4 n ≤ 4294967295
reversed_4 n = omega (
  arith,
  mod_below n 256 (omega arith),
  mod_below (n / 256) 256 (omega arith),
  mod_below (n / 256 / 256) 256 (omega arith),
  mod_below (n / 256 / 256 / 256) 256 (omega arith),
)

-- no view is greater than the most of its size
pub view_most : (size : Size) (raw : ℕ) → view_of size raw ≤ most_of size
view_most Bit0 raw = omega (arith, and_le_r raw 1)
view_most Bit1 raw = omega (arith, and_le_r raw 2)
view_most Bit2 raw = omega (arith, and_le_r raw 4)
view_most Bit3 raw = omega (arith, and_le_r raw 8)
view_most Bit4 raw = omega (arith, and_le_r raw 16)
view_most Bit5 raw = omega (arith, and_le_r raw 32)
view_most Bit6 raw = omega (arith, and_le_r raw 64)
view_most Bit7 raw = omega (arith, and_le_r raw 128)
view_most Low raw = omega (arith, and_le_r raw 15)
view_most High raw = omega (arith, and_le_r raw 240)
view_most Byte raw = omega (arith, and_le_r raw 255)
view_most Two raw = omega (arith, and_le_r raw 65535)
view_most Three raw = omega (arith, and_le_r raw 16777215)
view_most Four raw = omega (arith, and_le_r raw 4294967295)
view_most Count raw = ones-le 8 (bit_and raw 255) (omega (arith, and_le_r raw 255))
view_most TwoBig raw = reversed_2 (bit_and raw 65535)
view_most ThreeBig raw = reversed_3 (bit_and raw 16777215)
view_most FourBig raw = reversed_4 (bit_and raw 4294967295)

-- decimal digits of hexadecimal ones are most where all are
decimal_most : (size : Size) (x : ℕ) → x ≤ most_of size → as_decimal 8 x ≤ as_decimal 8 (most_of size)
decimal_most Bit0 x h = omega (arith, h)
decimal_most Bit1 x h = omega (arith, h)
decimal_most Bit2 x h = omega (arith, h)
decimal_most Bit3 x h = omega (arith, h)
decimal_most Bit4 x h = omega (arith, h)
decimal_most Bit5 x h = omega (arith, h)
decimal_most Bit6 x h = omega (arith, h)
decimal_most Bit7 x h = omega (arith, h)
decimal_most Low x h = omega (arith, h)
decimal_most High x h = omega (arith, h)
decimal_most Byte x h = omega (arith, h)
decimal_most Count x h = omega (arith, h)
decimal_most Two x h = omega (arith, h)
decimal_most TwoBig x h = omega (arith, h)
decimal_most Three x h = omega (arith, h)
decimal_most ThreeBig x h = omega (arith, h)
decimal_most Four x h = omega (arith, h)
decimal_most FourBig x h = omega (arith, h)

-- nine counts, inverted
inverted_count : (x : ℕ) → x ≤ 8 → 247 ≤ bit_xor x 255
inverted_count zero h = omega arith
inverted_count (suc zero) h = omega arith
inverted_count (suc (suc zero)) h = omega arith
inverted_count (suc (suc (suc zero))) h = omega arith
inverted_count (suc (suc (suc (suc zero)))) h = omega arith
inverted_count (suc (suc (suc (suc (suc zero))))) h = omega arith
inverted_count (suc (suc (suc (suc (suc (suc zero)))))) h = omega arith
inverted_count (suc (suc (suc (suc (suc (suc (suc zero))))))) h = omega arith
inverted_count (suc (suc (suc (suc (suc (suc (suc (suc zero)))))))) h = omega arith
inverted_count (suc (suc (suc (suc (suc (suc (suc (suc (suc n))))))))) h = absurd (omega (arith, h))

flipped : (bits x : ℕ) → x ≤ 2 ^ bits - 1 → 0 < 2 ^ bits → bit_xor x (2 ^ bits - 1) ≤ 2 ^ bits - 1
flipped bits x h p = let below = xor_lt bits x (2 ^ bits - 1) (omega (arith, h, p)) (omega (arith, p)) in
    omega (arith, below, p)

inverted_in : (size : Size) (x : ℕ) → x ≤ most_of size → IsIn (bit_xor x (2 ^ bits_of size - 1))
    (view_range Inverted size)
inverted_in Bit0 x h = record { least = omega arith; greatest = flipped 1 x h (omega arith) }
inverted_in Bit1 x h = record { least = omega arith; greatest = flipped 1 x h (omega arith) }
inverted_in Bit2 x h = record { least = omega arith; greatest = flipped 1 x h (omega arith) }
inverted_in Bit3 x h = record { least = omega arith; greatest = flipped 1 x h (omega arith) }
inverted_in Bit4 x h = record { least = omega arith; greatest = flipped 1 x h (omega arith) }
inverted_in Bit5 x h = record { least = omega arith; greatest = flipped 1 x h (omega arith) }
inverted_in Bit6 x h = record { least = omega arith; greatest = flipped 1 x h (omega arith) }
inverted_in Bit7 x h = record { least = omega arith; greatest = flipped 1 x h (omega arith) }
inverted_in Low x h = record { least = omega arith; greatest = flipped 4 x h (omega arith) }
inverted_in High x h = record { least = omega arith; greatest = flipped 4 x h (omega arith) }
inverted_in Byte x h = record { least = omega arith; greatest = flipped 8 x h (omega arith) }
inverted_in Count x h = record { least = inverted_count x h; greatest = flipped 8 x (omega (arith, h)) (omega arith) }
inverted_in Two x h = record { least = omega arith; greatest = flipped 16 x h (omega arith) }
inverted_in TwoBig x h = record { least = omega arith; greatest = flipped 16 x h (omega arith) }
inverted_in Three x h = record { least = omega arith; greatest = flipped 24 x h (omega arith) }
inverted_in ThreeBig x h = record { least = omega arith; greatest = flipped 24 x h (omega arith) }
inverted_in Four x h = record { least = omega arith; greatest = flipped 32 x h (omega arith) }
inverted_in FourBig x h = record { least = omega arith; greatest = flipped 32 x h (omega arith) }

-- what a kind makes of a view lies in the range of the view
pub view_in : (kind : Kind) (size : Size) (raw : ℕ) → IsIn (transformed kind size (view_of size raw))
    (view_range kind size)
view_in Mem size raw = record { least = omega arith; greatest = view_most size raw }
view_in Delta size raw = record { least = omega arith; greatest = view_most size raw }
view_in Prior size raw = record { least = omega arith; greatest = view_most size raw }
view_in Bcd size raw = record {
  least = omega arith;
  greatest = decimal_most size (view_of size raw)
      (view_most size raw);
}
view_in Inverted size raw = inverted_in size (view_of size raw) (view_most size raw)

-- a decimal of eight digits
decimal_small : (x : ℕ) → as_decimal 8 x ≤ 166666665
decimal_small x = omega arith

-- a size shows 32 bits at most
bits_small : (size : Size) → 2 ^ bits_of size - 1 ≤ 4294967295
bits_small Bit0 = omega arith
bits_small Bit1 = omega arith
bits_small Bit2 = omega arith
bits_small Bit3 = omega arith
bits_small Bit4 = omega arith
bits_small Bit5 = omega arith
bits_small Bit6 = omega arith
bits_small Bit7 = omega arith
bits_small Low = omega arith
bits_small High = omega arith
bits_small Byte = omega arith
bits_small Two = omega arith
bits_small Three = omega arith
bits_small Four = omega arith
bits_small Count = omega arith
bits_small TwoBig = omega arith
bits_small ThreeBig = omega arith
bits_small FourBig = omega arith

most_small : (size : Size) → most_of size ≤ 4294967295
most_small Bit0 = omega arith
most_small Bit1 = omega arith
most_small Bit2 = omega arith
most_small Bit3 = omega arith
most_small Bit4 = omega arith
most_small Bit5 = omega arith
most_small Bit6 = omega arith
most_small Bit7 = omega arith
most_small Low = omega arith
most_small High = omega arith
most_small Byte = omega arith
most_small Two = omega arith
most_small Three = omega arith
most_small Four = omega arith
most_small Count = omega arith
most_small TwoBig = omega arith
most_small ThreeBig = omega arith
most_small FourBig = omega arith

pub view_small : (kind : Kind) (size : Size) → (view_range kind size).greatest ≤ 4294967295
view_small Mem size = most_small size
view_small Delta size = most_small size
view_small Prior size = most_small size
view_small Bcd size = omega (arith, decimal_small (most_of size))
view_small Inverted size = bits_small size

-- ---- operators

module _ (r s : Range) (x y : ℕ) (p : IsIn x r) (q : IsIn y s) (small : x < 2 ^ 32) (small' : y < 2 ^ 32) where
  anything : (n : ℕ) → n < 2 ^ 32 → IsIn n any_number
  anything n h = record { least = omega arith; greatest = omega (arith, h) }

  -- an operator gives a number of 32 bits
  pub computed_small : (op : Op) → computed op x y < 2 ^ 32
  computed_small Mul = mod_below (x * y) (2 ^ 32) (omega arith)
  computed_small Div = by_zero (eqb y 0)
    where
      by_zero : (b : Bool) → cond b 0 (x / y) < 2 ^ 32
      by_zero true = omega arith
      by_zero false = omega (arith, div-le_self x y, small)
  computed_small And = omega (arith, and_le_l x y, small)
  computed_small Xor = xor_of_32 x y small small'
  computed_small Rem = by_zero (eqb y 0)
    where
      by_zero : (b : Bool) → cond b 0 (x % y) < 2 ^ 32
      by_zero true = omega arith
      by_zero false = omega (arith, mod-le x y, small)
  computed_small Add = mod_below (x + y) (2 ^ 32) (omega arith)
  computed_small Sub = mod_below (x + (2 ^ 32 - y)) (2 ^ 32) (omega arith)
  computed_small _ = omega arith

  -- a least below a greatest: the range is not empty
  sum_in : (b : Bool) → leb (r.greatest + s.greatest) 4294967295 ≡ b → IsIn ((x + y) % 2 ^ 32)
      (cond b (range (r.least + s.least) (r.greatest + s.greatest)) any_number)
  sum_in true e =
      let fits = leb-true (r.greatest + s.greatest) 4294967295 e in
      record {
        least = omega (arith, fits, p.least, p.greatest, q.least, q.greatest);
        greatest = omega (arith, fits, p.least, p.greatest, q.least, q.greatest);
      }
  sum_in false e = anything ((x + y) % 2 ^ 32) (computed_small Add)

  difference_in : (b : Bool) → leb s.greatest r.least ≡ b → IsIn ((x + (2 ^ 32 - y)) % 2 ^ 32)
      (cond b (range (r.least - s.greatest) (r.greatest - s.least)) any_number)
  difference_in true e =
      let above = leb-true s.greatest r.least e in
      record {
        least = omega (arith, above, p.least, p.greatest, q.least, q.greatest, small, small');
        greatest = omega (arith, above, p.least, p.greatest, q.least, q.greatest, small, small');
      }
  difference_in false e = anything ((x + (2 ^ 32 - y)) % 2 ^ 32) (computed_small Sub)

  product_in : (b : Bool) → leb (r.greatest * s.greatest) 4294967295 ≡ b
      → IsIn (x * y % 2 ^ 32) (cond b (range (r.least * s.least) (r.greatest * s.greatest)) any_number)
  product_in true e =
      let fits = leb-true (r.greatest * s.greatest) 4294967295 e in
      let most = mul-le x y r.greatest s.greatest p.greatest q.greatest in
      let fewest = mul-le r.least s.least x y p.least q.least in
      let whole : x * y % 2 ^ 32 ≡ x * y = omega (arith, fits, most) in
      record { least = omega (arith, whole, fewest); greatest = omega (arith, whole, most) }
  product_in false e = anything (x * y % 2 ^ 32) (computed_small Mul)

  quotient_in : (b : Bool) → leb 1 s.least ≡ b → IsIn (cond (eqb y 0) 0 (x / y))
      (cond b (range (r.least / s.greatest) (r.greatest / s.least)) any_number)
  quotient_in true e = by_zero (eqb y 0) refl
    where
      some : 1 ≤ s.least
      some = leb-true 1 s.least e

      by_zero : (b : Bool) → eqb y 0 ≡ b → IsIn (cond b 0 (x / y)) (range (r.least / s.greatest) (r.greatest / s.least))
      by_zero true z = absurd (omega (arith, eqb-true y 0 z, some, q.least))
      by_zero false z =
          let most = mul-le (x / y) s.least (x / y) y (omega arith) q.least in
          let fewest = mul-le (r.least / s.greatest) y (r.least / s.greatest) s.greatest (omega arith) q.greatest in
          record {
            least = le-div (r.least / s.greatest) x y (omega (arith, some, q.least))
                (omega (arith, fewest, div-mul-le_self r.least s.greatest, p.least));
            greatest = le-div (x / y) r.greatest s.least (omega (arith, some))
                (omega (arith, most, div-mul-le_self x y, p.greatest));
          }
  quotient_in false e = anything (cond (eqb y 0) 0 (x / y)) (computed_small Div)

  rest_in : (b : Bool) → leb 1 s.least ≡ b → IsIn (cond (eqb y 0) 0 (x % y))
      (cond b (range 0 (min r.greatest (s.greatest - 1))) any_number)
  rest_in true e = by_zero (eqb y 0) refl
    where
      some : 1 ≤ s.least
      some = leb-true 1 s.least e

      by_zero : (b : Bool) → eqb y 0 ≡ b → IsIn (cond b 0 (x % y)) (range 0 (min r.greatest (s.greatest - 1)))
      by_zero true z = absurd (omega (arith, eqb-true y 0 z, some, q.least))
      by_zero false z = record {
        least = omega arith;
        greatest = omega (
          arith,
          some,
          q.least,
          q.greatest,
          p.greatest,
          mod-le x y,
          mod_below x y (omega (arith, some, q.least)),
        );
      }
  rest_in false e = anything (cond (eqb y 0) 0 (x % y)) (computed_small Rem)

  -- over ranges that are not both single
  pub joined_in : (op : Op) → IsIn (computed op x y) (joined_range op r s)
  joined_in Mul = product_in (leb (r.greatest * s.greatest) 4294967295) refl
  joined_in Div = quotient_in (leb 1 s.least) refl
  joined_in And = record {
    least = omega arith;
    greatest = omega (arith, and_le_l x y, and_le_r x y, p.greatest, q.greatest);
  }
  joined_in Xor = anything (bit_xor x y) (computed_small Xor)
  joined_in Rem = rest_in (leb 1 s.least) refl
  joined_in Add = sum_in (leb (r.greatest + s.greatest) 4294967295) refl
  joined_in Sub = difference_in (leb s.greatest r.least) refl
  joined_in _ = record { least = omega arith; greatest = omega arith }

  both : (a b : Bool) → (a && b) ≡ true → (a ≡ true) × (b ≡ true)
  both true b e = (refl, e)
  both false b e = absurd (false≢true e)

  -- a range of one number has that number
  only : (n : ℕ) (t : Range) → IsIn n t → is_single t ≡ true → n ≡ t.least
  only n t i e = let one = eqb-true t.least t.greatest e in omega (arith, one, i.least, i.greatest)

  -- an operator over numbers of two ranges gives a number of the range of both
  pub operator_in : (op : Op) → IsIn (computed op x y) (operator_range op r s)
  operator_in op = by_single (is_single r && is_single s) refl
    where
      by_single : (b : Bool) → (is_single r && is_single s) ≡ b → IsIn (computed op x y)
          (cond b (range (computed op r.least s.least) (computed op r.least s.least)) (joined_range op r s))
      by_single true e =
          let two = both (is_single r) (is_single s) e in
          let left = only x r p two.0 in
          let right = only y s q two.1 in
          let same : computed op x y ≡ computed op r.least s.least = ap₂ (computed op) left right in
          record { least = omega (arith, same); greatest = omega (arith, same) }
      by_single false e = joined_in op
