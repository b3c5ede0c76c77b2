use Rattle.std.proofs.Common.{◌≡◌, ℕ, suc, zero, ◌-◌, ◌*◌, ◌^◌, ◌<◌, ◌≤◌, arith, pow-suc, lit<}
use Rattle.std.proofs.Math.Nat.{pow-le-pow_right}
use Rattle.ra_operand.proofs.views.+digits_as_decimal.Goals as goal

-- ten to a number of digits that is not 0
more_digits : (n : ℕ) → 0 < n → 10 ^ n ≡ 10 ^ (n - 1) * 10
more_digits zero h = elim h [ ]
more_digits (suc n) h = rw (pow-suc 10 n) (let e : suc n - 1 ≡ n = omega arith in rw e)

-- ten to at most so many digits
at_most : (n most : ℕ) → n ≤ most → 10 ^ n ≤ 10 ^ most
at_most n most h = pow-le-pow_right (lit< tt) h

pub overflow_mul-result : goal.overflow_mul-result
overflow_mul-result t c = omega (arith, c.digits_as_decimal.ensures.bound, at_most (c.args.digits - 1) 7 (omega arith))

pub overflow_add-result : goal.overflow_add-result
overflow_add-result t c = omega (arith, c.digits_as_decimal.ensures.bound, at_most (c.args.digits - 1) 7 (omega arith))

pub returns-else-digits-eq0-clause-bound : goal.returns-else-digits-eq0-clause-bound
returns-else-digits-eq0-clause-bound t c =
    omega (arith, c.digits_as_decimal.ensures.bound, more_digits c.args.digits (omega arith))
