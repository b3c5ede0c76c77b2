-- What an account tells is what its frames tell.
use Rattle.std.proofs.Common.{◌≡◌, ℕ, zero, suc, ◌+◌, ◌-◌, ◌⊎◌, ◌*◌, ◌^◌, ◌<◌, ◌≤◌, nat_lt, Bool, true, false, List}
use Rattle.std.proofs.Common.{length, map, refl, sym, ap, subst, ◌∙◌, inl, inr, arith}
use Rattle.std.specs.Prelude.{if◌then◌else◌, ◌==◌, count_by}
use Rattle.std.specs.List.{range_with_len}
use Rattle.std.proofs.lemmas.Bool.{cases_eq, cases_lt, lt-ltb, le-ltb, ltb-true, ltb-false, eq-eqb, ne_eqb}
use Rattle.std.proofs.lemmas.List.{length-take-le, get_or-take}
use Rattle.std.proofs.lemmas.List.Sums.{sum_by-cons}
use Rattle.ra_account.proofs.WidthLemmas.{doubled_width}
use Rattle.std.proofs.lemmas.List.FromFn.{fill_by_all}
use Rattle.std.proofs.Math.Nat.{mul-le-mul_right}
use Rattle.ra_account.specs.declared.facts.Facts.{Facts}
use Rattle.ra_account.specs.declared.columns.Columns.{Columns}
use Rattle.ra_account.specs.declared.condition.ConditionAccount.{ConditionAccount}
use Rattle.ra_account.specs.declared.mark.Mark.TheVariants.{Never}
use Rattle.ra_account.specs.Conditions.{IsAccountOf}
use Rattle.ra_account.specs.Marks.{IsSound, IsTimeline, IsWidth, column_of, columns_with, marks_in, timeline_of}
use Rattle.ra_account.specs.Marks.{width_of}
use Rattle.ra_account.specs.Text.{told_by, told_of}

-- a power of two is not 0
power_some : (e : ℕ) → 0 < 2 ^ e
power_some zero = omega arith
power_some (suc e) = omega (arith, power_some e)

-- the least power of two with one frame more
width_by : (n : ℕ) → IsWidth n (width_of n) → (b : Bool) → nat_lt (60 * width_of n) (suc n) ≡ b
    → IsWidth (suc n) (if b then width_of n + width_of n else width_of n)
width_by n known true past =
    let some : 0 < width_of n = subst (λ w. 0 < w) (sym known.power) (power_some known.exponent) in
    doubled_width n (width_of n) (omega (arith, ltb-true (60 * width_of n) (suc n) past, known.enough)) some known
width_by n known false within = record {
  exponent = known.exponent;
  power = known.power;
  enough = ltb-false (60 * width_of n) (suc n) within;
  least = λ e fits. known.least e (omega (arith, fits));
}

-- the least power of two is that with which sixty columns have room
pub width_is : (n : ℕ) → IsWidth n (width_of n)
width_is zero = record { exponent = 0; power = refl; enough = omega arith; least = λ e fits. omega arith }
width_is (suc n) = width_by n (width_is n) (nat_lt (60 * width_of n) (suc n)) refl

-- two powers of two that are the least are one
pub one_width : (n v w : ℕ) → IsWidth n v → IsWidth n w → v ≡ w
one_width n v w a b =
    let same : a.exponent ≡ b.exponent =
    omega (
      arith,
      a.least b.exponent (subst (λ x. n ≤ 60 * x) b.power b.enough),
      b.least a.exponent (subst (λ x. n ≤ 60 * x) a.power a.enough),
    ) in
    a.power ∙ ap (λ e. 2 ^ e) same ∙ sym b.power

-- how many of some numbers that follow are below another
below_count : (m from n : ℕ) → m ≤ from + n → count_by (λ k. nat_lt k m) (range_with_len from n) ≡ m - from
below_count m from zero high = omega (arith, high)
below_count m from (suc n) high =
    sum_by-cons (λ k. if nat_lt k m then 1 else 0) from (range_with_len (from + 1) n)
    ∙ ap (λ c. (if nat_lt from m then 1 else 0) + c) (below_count m (from + 1) n (omega (arith, high)))
    ∙ by_case (cases_lt from m)
  where
    by_case : (from < m) ⊎ (m ≤ from) → (if nat_lt from m then 1 else 0) + (m - (from + 1)) ≡ m - from
    by_case (inl below) = ap (λ b. (if b then 1 else 0) + (m - (from + 1))) (lt-ltb from m below) ∙ omega (arith, below)
    by_case (inr above) = ap (λ b. (if b then 1 else 0) + (m - (from + 1))) (le-ltb from m above) ∙ omega (arith, above)

-- how many columns have a frame
abbrev begun_too : (full begun : ℕ) → ℕ
begun_too full begun = full + (if begun == 0 then 0 else 1)

none_too : (full begun : ℕ) → begun ≡ 0 → begun_too full begun ≡ full
none_too full begun none = ap (λ b. full + (if b then 0 else 1)) (eq-eqb begun 0 none) ∙ omega arith

one_too : (full begun : ℕ) → (begun ≡ 0 → ⊥) → begun_too full begun ≡ full + 1
one_too full begun some = ap (λ b. full + (if b then 0 else 1)) (ne_eqb begun 0 some)

-- a column has a frame where it is one of these, and no other has
column_has : (w full begun k : ℕ) → begun < w → nat_lt (k * w) (full * w + begun) ≡ nat_lt k (begun_too full begun)
column_has w full begun k some = elim (cases_eq begun 0) [
  | inl none ↦ elim (cases_lt k full) [
    | inl below ↦ (let more : suc k ≤ full = below in
        lt-ltb (k * w) (full * w + begun) (omega (arith, some, none, mul-le-mul_right w more))
        ∙ sym (lt-ltb k (begun_too full begun) (omega (arith, below, none_too full begun none))))
    | inr above ↦ le-ltb (k * w) (full * w + begun) (omega (arith, none, mul-le-mul_right w above))
        ∙ sym (le-ltb k (begun_too full begun) (omega (arith, above, none_too full begun none)))
  ]
  | inr one ↦ elim (cases_lt k (full + 1)) [
    | inl below ↦ (let most : k ≤ full = omega (arith, below) in
        lt-ltb (k * w) (full * w + begun) (omega (arith, one, mul-le-mul_right w most))
        ∙ sym (lt-ltb k (begun_too full begun) (omega (arith, below, one_too full begun one))))
    | inr above ↦ (let past : suc full ≤ k = omega (arith, above) in
        le-ltb (k * w) (full * w + begun) (omega (arith, some, mul-le-mul_right w past))
        ∙ sym (le-ltb k (begun_too full begun) (omega (arith, above, one_too full begun one))))
  ]
]

-- there are at most sixty
few_columns : (full begun : ℕ) → full ≤ 60 → (full ≡ 60 → begun ≡ 0) → begun_too full begun ≤ 60
few_columns full begun few none = elim (cases_eq begun 0) [
  | inl nought ↦ omega (arith, few, none_too full begun nought)
  | inr some ↦ elim (cases_eq full 60) [
    | inl same ↦ absurd (some (none same))
    | inr other ↦ omega (arith, few, other, one_too full begun some)
  ]
]

-- a column that is one of them has a frame
has_frame : (w full begun k : ℕ) → begun < w → k < begun_too full begun → k * w < full * w + begun
has_frame w full begun k some below = ltb-true (k * w) (full * w + begun)
    (column_has w full begun k some ∙ lt-ltb k (begun_too full begun) below)

-- the marks of columns are those of their frames
pub marks_are : (counts : List Bool) (c : Columns) → IsTimeline counts c → IsSound c → marks_in c ≡ timeline_of counts
marks_are counts c is sound =
    let n = length counts in
    let m = begun_too c.full c.begun in
    let frames = is.columns_too.frames in
    let few : m ≤ 60 = few_columns c.full c.begun sound.full sound.none_begun in
    let width : c.width ≡ width_of n = one_width n c.width (width_of n) is.width_too (width_is n) in
    let same : ◌≡◌ {A = ℕ → Bool} (λ k. nat_lt (k * c.width) n) (λ k. nat_lt k m) = (λ i k.
    (ap (nat_lt (k * c.width)) (sym frames) ∙ column_has c.width c.full c.begun k sound.begun) i) in
    let count : columns_with c.width n ≡ m = ap (λ p. count_by p (range_with_len 0 60)) same
    ∙ below_count m 0 60 (omega (arith, few)) ∙ omega arith in
    fill_by_all (λ k. column_of c.width k counts) (marks_in c) m Never
    (length-take-le m c.marks.items (omega (arith, few, sound.sixty)))
    (λ k below. get_or-take m c.marks.items k Never below ∙ is.columns_too.marks_too k
    (subst (λ f. k * c.width < f) frames (has_frame c.width c.full c.begun k sound.begun below)))
    ∙ ap (λ count. map (λ k. column_of c.width k counts) (range_with_len 0 count)) (sym count)
    ∙ ap (λ w. map (λ k. column_of w k counts) (range_with_len 0 (columns_with w n))) width

-- what an account tells is what its frames tell
pub told_is : (frames : List Facts) (a : ConditionAccount) → IsAccountOf frames a
    → IsSound a.columns → told_by a ≡ told_of frames
told_is frames a is sound = (λ i. record {
  counts = is.counts i;
  past = is.past i;
  best = is.best i;
  left = is.left i;
  right = is.right i;
  marks = marks_are (map (λ f. f.counts) frames) a.columns is.columns sound i;
})
