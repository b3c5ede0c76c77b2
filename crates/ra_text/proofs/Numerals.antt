-- The digits that are printed of a number spell it.
use Rattle.std.proofs.Common.{◌≡◌, ◌∙◌, ◌^◌, ◌-◌, inl, inr, ℕ, zero, suc, ◌+◌, ◌*◌, ◌<◌, ◌≤◌, Bool, true, false}
use Rattle.std.proofs.Common.{if◌then◌else◌, ◌==◌, nat_lt, List, [], ◌∷◌, ◌++◌, replicate, Option, Some, None, refl}
use Rattle.std.proofs.Common.{sym, ap, subst, arith, eq-eqb, eqb-true, lt-ltb, le-ltb, lit<, mod-lt, min, lit≤}
use Rattle.std.proofs.Common.{length-append, append-nil, lt_of_lt_of_le}
use Rattle.std.proofs.lemmas.Bool.{cases_lt}
use Rattle.std.specs.Char.{digit_value}
use Rattle.std.specs.Str.Parse.{IsNumeral, AllDigits, digits_value, digits_value_after}
use Rattle.std.specs.Fmt.{decimal, digits}
use Rattle.std.proofs.lemmas.Fmt.{decimal_is_IsNumeral, digits_is_IsNumeral}
use Rattle.ra_text.specs.declared.base.Base.{Base}
use Rattle.ra_text.specs.declared.base.Base.TheVariants.{Ten, Sixteen}
use Rattle.ra_text.specs.Form.{Form, Spell, Then}
use Rattle.ra_text.specs.Number as spec
use Rattle.ra_text.specs.Number.{digit_of, base_of, Digits, numeral, saturated, signed, hexadecimal}
use Rattle.ra_text.proofs.Spelled.{then-spelled, none-spelled, one-spelled}

-- every number below the bound passes the test
abbrev all_below : (ℕ → Bool) → ℕ → Bool
all_below test zero = true
all_below test (suc n) = if test n then all_below test n else false

below-passes : (test : ℕ → Bool) (n : ℕ) → all_below test n ≡ true → (c : ℕ) → c < n → test c ≡ true
below-passes test zero all c h = elim h [ ]
below-passes test (suc n) all c h = cases (below-passes test n) (test n) refl all (c == n) refl where
  cases : (all_below test n ≡ true → (d : ℕ) → d < n → test d ≡ true) → (passed : Bool) → test n
      ≡ passed → (if passed then all_below test n else false) ≡ true → (same : Bool) → (c == n)
      ≡ same → test c ≡ true
  cases next false is all same e = absurd (cc all)
  cases next true is all true e = subst (λ x. test x ≡ true) (sym (eqb-true c n e)) is
  cases next true is all false e = next all c (let ne : c ≡ n → ⊥ =
      (λ p. let t : (c == n) ≡ true = rw p (eq-eqb n n refl) in cc (t, e)) in omega arith)

-- the byte is no digit, or stands for its value
abbrev stands : Base → ℕ → Bool
stands base c = if nat_lt (digit_value c) (base_of base)
    then elim (digit_of base c) [ Some d ↦ d == digit_value c | None ↦ false ] else true

stands-all : (base : Base) → all_below (stands base) 123 ≡ true
stands-all Ten = refl
stands-all Sixteen = refl

stands-listed : (base : Base) (c : ℕ) → digit_value c < base_of base → stands base c ≡ true
    → digit_of base c ≡ Some (digit_value c)
stands-listed base c h e = cases (digit_of base c) (nat_lt (digit_value c) (base_of base))
    (lt-ltb (digit_value c) (base_of base) h) e where
      cases : (found : Option ℕ) (is_digit : Bool) → is_digit ≡ true → (if is_digit then elim found [
        | Some d ↦ d == digit_value c
        | None ↦ false
      ] else true) ≡ true → found ≡ Some (digit_value c)
      cases (Some d) true is e = ap (λ x. Some x) (eqb-true d (digit_value c) e)
      cases None true is e = absurd (cc e)
      cases found false is e = absurd (cc is)

-- a digit stands for its value
pub digit-listed : (base : Base) (c : ℕ) → digit_value c < base_of base → digit_of base c ≡ Some (digit_value c)
digit-listed base c h = elim (cases_lt c 123) [
  | inl low ↦ stands-listed base c h (below-passes (stands base) 123 (stands-all base) c low)
  | inr high ↦ absurd (let far : digit_value c ≡ 36 = beyond c high in let low : base_of base ≤ 16 =
      at_most base in omega arith)
] where
  at_most : (base : Base) → base_of base ≤ 16
  at_most Ten = lit≤ tt
  at_most Sixteen = lit≤ tt

  beyond : (c : ℕ) → 123 ≤ c → digit_value c ≡ 36
  beyond c high =
      rw (
        le-ltb c 48 (omega arith),
        le-ltb c 58 (omega arith),
        le-ltb c 65 (omega arith),
        le-ltb c 91 (omega arith),
        le-ltb c 97 (omega arith),
        le-ltb c 123 high,
      )

pub digits-spelled : (base : Base) (so_far : ℕ) (ds : List ℕ) → AllDigits (base_of base) ds
    → Digits (digit_of base) (base_of base) so_far ds (digits_value_after (base_of base) so_far ds)
digits-spelled base so_far [] all = refl
digits-spelled base so_far (c ∷ ds) all =
    (digit_value c, digit-listed base c all.0, digits-spelled base (so_far * base_of base + digit_value c) ds all.1)

-- a numeral spells its value
pub numeral-spelled : (base : Base) (ds : List ℕ) → IsNumeral (base_of base) ds
    → numeral (digit_of base) (base_of base) ds (digits_value (base_of base) ds)
numeral-spelled base [] h = absurd (omega (arith, h.0))
numeral-spelled base (c ∷ ds) h = then-spelled (c ∷ []) ds (digit_value c) refl
    (one-spelled c (digit-listed base c h.1.0)) (let same : 0 * base_of base + digit_value c
    ≡ digit_value c = omega arith in subst (λ n. Digits (digit_of base) (base_of base)
    (digit_value c) ds (digits_value_after (base_of base) n ds)) (sym same)
    (digits-spelled base (digit_value c) ds h.1.1))

-- zeros before digits change nothing
zeros-value : (base : Base) (zeros : ℕ) (ds : List ℕ)
    → digits_value (base_of base) (replicate zeros 48 ++ ds) ≡ digits_value (base_of base) ds
zeros-value base zero ds = refl
zeros-value base (suc zeros) ds = let same : 0 * base_of base + 0 ≡ 0 = omega arith in ap (λ n.
    digits_value_after (base_of base) n (replicate zeros 48 ++ ds)) same ∙ zeros-value base zeros ds

zeros-digits : (base : Base) (zeros : ℕ) (ds : List ℕ) → AllDigits (base_of base) ds
    → AllDigits (base_of base) (replicate zeros 48 ++ ds)
zeros-digits base zero ds all = all
zeros-digits Ten (suc zeros) ds all = (lit< tt, zeros-digits Ten zeros ds all)
zeros-digits Sixteen (suc zeros) ds all = (lit< tt, zeros-digits Sixteen zeros ds all)

zeros-numeral : (base : Base) (zeros : ℕ) (ds : List ℕ) → IsNumeral (base_of base) ds
    → IsNumeral (base_of base) (replicate zeros 48 ++ ds)
zeros-numeral base zeros ds h =
    (omega (arith, h.0, length-append (replicate zeros 48) ds), zeros-digits base zeros ds h.1)

-- a form of a numeral, and what is made of its number
made : {V : Type 0} (form : Form ℕ ℕ) (f : ℕ → V) (text : List ℕ) (n : ℕ) (v : V) → form text n
    → f n ≡ v → Then form (λ n. Spell (f n)) text v
made form f text n v h e =
    then-spelled text [] n (sym (append-nil text)) h (record { empty = refl; is = sym e })

-- the decimal digits of a number of 32 bits spell it
pub decimal-spelled : (n : ℕ) → n < 4294967296 → spec.decimal (decimal n) n
decimal-spelled n small =
    let d : IsNumeral 10 (decimal n) × (digits_value 10 (decimal n) ≡ n) = decimal_is_IsNumeral n (omega arith) in
    made (numeral (digit_of Ten) 10) saturated (decimal n) n n (subst (λ m. numeral
    (digit_of Ten) 10 (decimal n) m) d.1 (numeral-spelled Ten (decimal n) d.0)) (omega arith)

-- and so do they where a sign may stand
pub signed-spelled : (n : ℕ) → n < 4294967296 → signed (decimal n) n
signed-spelled n small =
    let d : IsNumeral 10 (decimal n) × (digits_value 10 (decimal n) ≡ n) =
    decimal_is_IsNumeral n (omega arith) in then-spelled [] (decimal n) false refl
    (inr none-spelled) (made (numeral (digit_of Ten) 10) saturated (decimal n) n n
    (subst (λ m. numeral (digit_of Ten) 10 (decimal n) m) d.1
    (numeral-spelled Ten (decimal n) d.0)) (omega arith))

-- the hexadecimal digits of a number of 32 bits spell it, with zeros before them
pub hexadecimal-spelled : (zeros n : ℕ) → n < 4294967296 → hexadecimal (replicate zeros 48 ++ digits 16 false n) n
hexadecimal-spelled zeros n small =
    let d : IsNumeral 16 (digits 16 false n) × (digits_value 16 (digits 16 false n) ≡ n) =
    digits_is_IsNumeral 16 false (lit≤ tt) (lit≤ tt) n (lt_of_lt_of_le small (lit≤ tt)) in
    made (numeral (digit_of Sixteen) 16) saturated (replicate zeros 48 ++ digits 16 false n) n n
    (subst (λ m. numeral (digit_of Sixteen) 16 (replicate zeros 48 ++ digits 16 false n) m)
    (zeros-value Sixteen zeros (digits 16 false n) ∙ d.1) (numeral-spelled Sixteen (replicate zeros
    48 ++ digits 16 false n) (zeros-numeral Sixteen zeros (digits 16 false n) d.0)))
    (omega arith)

-- ---- the numbers that texts spell are of 32 bits

saturated-fits : (n : ℕ) → saturated n < 2 ^ 32
saturated-fits n = omega arith

pub decimal-fits : (t : List ℕ) (n : ℕ) → spec.decimal t n → n < 2 ^ 32
decimal-fits t n h = subst (λ x. x < 2 ^ 32) (sym h.of_next.is) (saturated-fits h.v)

pub hexadecimal-fits : (t : List ℕ) (n : ℕ) → hexadecimal t n → n < 2 ^ 32
hexadecimal-fits t n h = subst (λ x. x < 2 ^ 32) (sym h.of_next.is) (saturated-fits h.v)

with_sign-fits : (negative : Bool) (n : ℕ) → spec.with_sign negative n < 2 ^ 32
with_sign-fits true n = mod-lt (4294967296 - min n 2147483648) (lit< tt)
with_sign-fits false n = saturated-fits n

pub signed-fits : (t : List ℕ) (n : ℕ) → signed t n → n < 2 ^ 32
signed-fits t n h = subst (λ x. x < 2 ^ 32) (sym h.of_next.of_next.is) (with_sign-fits h.v h.of_next.v)
