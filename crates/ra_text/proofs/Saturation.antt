-- A number that is saturated at each digit.
use Rattle.std.proofs.Common.{◌≡◌, ◌∙◌, ℕ, ◌+◌, ◌*◌, ◌<◌, min, List, [], ◌∷◌, Some, None, refl, ap, arith}
use Rattle.ra_text.specs.declared.base.Base.{Base}
use Rattle.ra_text.specs.declared.base.Base.TheVariants.{Ten, Sixteen}
use Rattle.ra_text.specs.Number.{digit_of, base_of, saturated}
use Rattle.ra_text.specs.ReadingNumbers.{digits_at}
use Rattle.ra_text.specs.Moves.{SumsDigits}

-- The digits behind the first number are those behind the number so far, which is saturated.
pub record DigitsSoFar (base : Base) (first : ℕ) (old : List ℕ) (number : ℕ) (rest : List ℕ) : Type 0 where
  pub all : ℕ
  pub is : number ≡ saturated all
  pub same : digits_at (digit_of base) (base_of base) first old ≡ digits_at (digit_of base) (base_of base) all rest

-- a number of 32 bits is not changed
pub saturated-small : (n : ℕ) → n < 4294967296 → n ≡ saturated n
saturated-small n h = omega arith

pub saturated-more : (base : Base) (n d : ℕ) → min
    (min (saturated n * base_of base) 4294967295 + d) 4294967295 ≡ saturated (n * base_of base + d)
saturated-more Ten n d = omega arith
saturated-more Sixteen n d = omega arith

pub digits-start : (base : Base) (first : ℕ) (old : List ℕ) → first < 4294967296 → DigitsSoFar base first old first old
digits-start base first old h = record { all = first; is = saturated-small first h; same = refl }

-- one digit more
pub digits-next : (base : Base) (first : ℕ) (old : List ℕ) (number byte : ℕ) (rest : List ℕ) (d : ℕ)
    → digit_of base byte ≡ Some d → DigitsSoFar base first old number (byte ∷ rest)
    → DigitsSoFar base first old (min (min (number * base_of base) 4294967295 + d) 4294967295) rest
digits-next base first old number byte rest d listed so_far = record {
  all = so_far.all * base_of base + d;
  is = ap (λ n. min (min (n * base_of base) 4294967295 + d) 4294967295) so_far.is ∙ saturated-more base so_far.all d;
  same = so_far.same ∙ (rw (listed, digits_at));
}

-- no digit more
pub digits-stop : (base : Base) (first : ℕ) (old : List ℕ) (number byte : ℕ) (rest : List ℕ)
    → digit_of base byte ≡ None → DigitsSoFar base first old number (byte ∷ rest)
    → SumsDigits base first old number (byte ∷ rest)
digits-stop base first old number byte rest none so_far =
    record { all = so_far.all; read = so_far.same ∙ (rw (none, digits_at)); is = so_far.is }
