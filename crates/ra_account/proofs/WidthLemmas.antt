-- The width of columns with one frame more.
use Rattle.std.proofs.Common.{◌≡◌, ℕ, suc, ◌+◌, ◌*◌, ◌^◌, ◌<◌, ◌≤◌, inl, inr, sym, ap, ◌∙◌, arith}
use Rattle.std.proofs.lemmas.Bool.{cases_eq}
use Rattle.std.proofs.Math.Nat.{mul-le-mul_right}
use Rattle.ra_account.specs.Marks.{IsWidth}

-- a frame more than sixty full columns have takes more than this power of two
past_power : (n w exponent e : ℕ) → 60 * w ≡ n → w ≡ 2 ^ exponent → suc n ≤ 60 * 2 ^ e → exponent ≤ e → suc exponent ≤ e
past_power n w exponent e full power fits below = elim (cases_eq e exponent) [
  | inl same ↦ (let again : 2 ^ e ≡ w = ap (λ k. 2 ^ k) same ∙ sym power in omega arith)
  | inr other ↦ omega arith
]

-- it doubles where all are full
pub doubled_width : (n w : ℕ) → 60 * w ≡ n → 0 < w → IsWidth n w → IsWidth (suc n) (w + w)
doubled_width n w full some known = record {
  exponent = suc known.exponent;
  power = (let power = known.power in omega arith);
  enough = omega arith;
  least = λ e fits. past_power n w known.exponent e full known.power fits (known.least e (omega arith));
}
