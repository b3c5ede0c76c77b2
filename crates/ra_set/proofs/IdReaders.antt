-- The reader of ids.
use Rattle.std.proofs.Common.{◌≡◌, ◌∙◌, inl, inr, ℕ, ◌+◌, ◌*◌, ◌<◌, ◌≤◌, ◌==◌, ◌||◌, nat_lt, Bool, true, false}
use Rattle.std.proofs.Common.{if◌then◌else◌, List, [], ◌∷◌, ◌++◌, length, Option, Some, None, Ok, Err, refl, sym, ap}
use Rattle.std.proofs.Common.{subst, arith, codes, eqb-true, eq-eqb, lt-ltb, le-ltb, append-nil}
use Rattle.std.proofs.lemmas.Bool.{cases_lt}
use borrow.Author.Tests.{ltb-true}
use Rattle.ra_set.specs.Grammar.{ExactId}
use Rattle.ra_set.proofs.RunLemmas.{only-byte}
use Rattle.ra_set.specs.Reading.{is_past, with_digit, more_digits_at, id_at}
use Rattle.ra_text.specs.Chain.{Chain}
use Rattle.ra_text.specs.Form.{Form, Spell, One, Then}
use Rattle.ra_text.specs.Number.{digits, Digits}
use Rattle.ra_text.specs.Reading.{Outcome, ◌>>=◌, chain_at, one_at, begins}
use Rattle.ra_text.specs.Table.{lookup, is_in, only}
use Rattle.ra_text.proofs.Chains.{reader-chain}
use Rattle.ra_text.proofs.Either.{reader-map}
use Rattle.ra_text.proofs.Readers.{Reader, reader-spell, reader-one, reader-then, reader-same, reader-at}
use Rattle.ra_text.proofs.Tables.{In, keys_of, listed_in, value-passes, passes}
use Rattle.ra_text.proofs.Spelled.{then-spelled, none-spelled, one-spelled, viable-by, link-spelled}

-- ---- the digits behind the first, as a chain whose state is the number so far

-- the numbers of an id, each with one digit more
abbrev numbers : ℕ → Form ℕ (List ℕ)
numbers = Chain with_digit (λ s n. Spell n) (λ s n. n) (λ s. true)

-- the last of these numbers
abbrev last_of : ℕ → List ℕ → ℕ
last_of s [] = s
last_of s (n ∷ ns) = last_of n ns

-- the number of an id, behind its first digit
abbrev behind_first : ℕ → Form ℕ ℕ
behind_first d = Then (numbers d) (λ ns. Spell (last_of d ns))

-- a digit that goes on with some number is a digit
with-digit : (s c n : ℕ) → with_digit s c ≡ Some n → (d : ℕ) × (lookup digits c ≡ Some d)
    × (is_past s d ≡ false) × (n ≡ s * 10 + d)
with-digit s c n e = cases (lookup digits c) refl e where
  past : (d : ℕ) → (p : Bool) → is_past s d ≡ p → (if p then None else Some (s * 10 + d)) ≡ Some n
      → (is_past s d ≡ false) × (n ≡ s * 10 + d)
  past d true is e = absurd (cc e)
  past d false is e = (is, (let same : s * 10 + d ≡ n = cc e in sym same))

  cases : (found : Option ℕ) → lookup digits c ≡ found
      → elim found [ Some d ↦ if is_past s d then None else Some (s * 10 + d) | None ↦ None ]
      ≡ Some n → (d : ℕ) × (lookup digits c ≡ Some d) × (is_past s d ≡ false) × (n ≡ s * 10 + d)
  cases (Some d) is e = let p = past d (is_past s d) refl e in (d, is, p.0, p.1)
  cases None is e = absurd (cc e)

digit-with : (s c d : ℕ) → lookup digits c ≡ Some d → is_past s d ≡ false → with_digit s c ≡ Some (s * 10 + d)
digit-with s c d listed past = ap (λ (found : Option ℕ). elim found [
  | Some d ↦ if is_past s d
      then None else Some (s * 10 + d)
  | None ↦ None
]) listed
    ∙ ap (λ (p : Bool). if p then None else Some (s * 10 + d)) past

-- what it says that a digit goes on
not-past : (s d : ℕ) → is_past s d ≡ false → (0 < s) × (s * 10 + d < 4294967296)
not-past s d e = cases (s == 0) refl (nat_lt 4294967295 (s * 10 + d)) refl e where
  cases : (zero : Bool) → (s == 0) ≡ zero → (over : Bool) → nat_lt 4294967295 (s * 10 + d) ≡ over
      → (zero || over) ≡ false → (0 < s) × (s * 10 + d < 4294967296)
  cases true z over o e = absurd (cc e)
  cases false z true o e = absurd (cc e)
  cases false z false o e = (
    (let some : s ≡ 0 → ⊥ = (λ p. let t : (s == 0) ≡ true = eq-eqb s 0 p in cc (t, z)) in omega arith),
    (elim (cases_lt 4294967295 (s * 10 + d)) [
      | inl less ↦ absurd (let t : nat_lt 4294967295 (s * 10
          + d) ≡ true = lt-ltb 4294967295 (s * 10 + d) less in cc (t, o))
      | inr ge ↦ omega arith
    ]),
  )

is-not-past : (s d : ℕ) → 0 < s → s * 10 + d < 4294967296 → is_past s d ≡ false
is-not-past s d some fits = cases (s == 0) refl (nat_lt 4294967295 (s * 10 + d)) refl where
  cases : (zero : Bool) → (s == 0) ≡ zero → (over : Bool) → nat_lt 4294967295 (s * 10 + d) ≡ over
      → (zero || over) ≡ false
  cases true z over o = absurd (let p : s ≡ 0 = eqb-true s 0 z in omega arith)
  cases false z true o = absurd (let n : nat_lt 4294967295 (s * 10 + d) ≡ false =
      le-ltb 4294967295 (s * 10 + d) (omega arith) in cc (n, o))
  cases false z false o = refl

-- ---- the chain spells what an id is

numbers-digits : (s : ℕ) (t : List ℕ) (ns : List ℕ) → numbers s t ns → s < 4294967296
    → Digits (lookup digits) 10 s t (last_of s ns) × (last_of s ns < 4294967296) × (s ≡ 0 → t ≡ [])
numbers-digits s t [] h fits = (subst (λ x. Digits (lookup digits) 10 s x s) (sym h.0) refl, fits, λ zero. h.0)
numbers-digits s t (n ∷ ns) h fits =
    let one : h.tag ≡ n = sym h.of_item.is in
    let w = with-digit s h.symbol n (h.separated ∙ ap (λ x. Some x) one) in
    let below = not-past s w.0 w.2 in
    let next = numbers-digits n h.behind ns h.of_others (omega arith) in
    let text : t ≡ h.symbol ∷ h.behind = h.parts ∙ ap (λ x. h.symbol ∷ (x ++ h.behind)) h.of_item.empty in (
      subst (λ x. Digits (lookup digits) 10 s x (last_of n ns)) (sym text)
          (w.0, w.1, subst (λ m. Digits (lookup digits) 10 m h.behind (last_of n ns)) w.3 next.0),
      next.1,
      λ zero. absurd (omega arith),
    )

-- digits make a number no smaller
digits-grow : (s : ℕ) (t : List ℕ) (n : ℕ) → Digits (lookup digits) 10 s t n → s ≤ n
digits-grow s [] n h = omega arith
digits-grow s (c ∷ t) n h = let more = digits-grow (s * 10 + h.0) t n h.2 in omega arith

digits-numbers : (s : ℕ) (t : List ℕ) (n : ℕ) → Digits (lookup digits) 10 s t n → n < 4294967296
    → (s ≡ 0 → t ≡ []) → (ns : List ℕ) × numbers s t ns × (last_of s ns ≡ n)
digits-numbers s [] n h fits zero = ([], (refl, refl), sym h)
digits-numbers s (c ∷ t) n h fits zero =
    let some : s ≡ 0 → ⊥ = (λ p. let none : c ∷ t ≡ [] = zero p in cc none) in
    let more = digits-grow (s * 10 + h.0) t n h.2 in
    let next = digits-numbers (s * 10 + h.0) t n h.2 fits (λ p. absurd (omega (arith, some))) in (
      (s * 10 + h.0) ∷ next.0,
      link-spelled c (s * 10 + h.0) [] t refl (digit-with s c h.0 h.1
          (is-not-past s h.0 (omega (arith, some)) (omega arith))) none-spelled next.1,
      next.2,
    )

-- a digit, and those that go on with its number
abbrev chain_id : Form ℕ ℕ
chain_id = Then (One (lookup digits)) behind_first

-- a digit is below ten
digit-small : (c d : ℕ) → lookup digits c ≡ Some d → d < 10
digit-small c d listed = ltb-true d 10 (value-passes (λ d. nat_lt d 10) digits refl c d listed)

-- the byte is no digit of zero, or is that of zero
abbrev zero_first : ℕ → Bool
zero_first c = elim (lookup digits c) [ Some d ↦ if d == 0 then is_in (only (codes "0")) c else true | None ↦ true ]

-- the byte of a digit of zero
digit-zero : (c d : ℕ) → lookup digits c ≡ Some d → d ≡ 0 → is_in (only (codes "0")) c ≡ true
digit-zero c d listed zero = cases (passes zero_first (keys_of digits) refl c (listed_in digits c (d, listed))) where
  cases : zero_first c ≡ true → is_in (only (codes "0")) c ≡ true
  cases e =
      let found : (if d == 0 then is_in (only (codes "0")) c else true) ≡ true =
      sym (ap (λ (found : Option ℕ). elim found [
        | Some d ↦ if d == 0 then is_in (only (codes "0")) c
            else true
        | None ↦ true
      ]) listed) ∙ e in
      let same : (d == 0) ≡ true = eq-eqb d 0 zero in
      sym (ap (λ (b : Bool). if b then is_in (only (codes "0")) c else true) same) ∙ found

-- only the byte of the digit zero stands for zero
zero-digit : (c d : ℕ) → lookup digits c ≡ Some d → is_in (only (codes "0")) c ≡ true → d ≡ 0
zero-digit c d listed zero =
    let same : c ≡ 48 = only-byte 48 c zero in
    let first : ◌≡◌ {A = Option ℕ} (Some 0) (Some d) = subst (λ x. lookup digits x ≡ Some d) same listed in
    let is : 0 ≡ d = cc first in
    sym is

id-exact : (t : List ℕ) (n : ℕ) → chain_id t n → ExactId t n
id-exact t n h =
    let behind = h.of_next in
    let small = digit-small h.of_first.symbol h.v h.of_first.listed in
    let all = numbers-digits h.v behind.front behind.v behind.of_first (omega arith) in
    let rest : h.behind ≡ behind.front =
    behind.parts ∙ ap (λ x. behind.front ++ x) behind.of_next.empty ∙ append-nil behind.front in
    let text : t ≡ h.of_first.symbol ∷ behind.front =
    h.parts ∙ ap (λ x. x ++ h.behind) h.of_first.alone ∙ ap (λ x. h.of_first.symbol ∷ x) rest in
    record {
      number = then-spelled (h.of_first.symbol ∷ []) behind.front h.v text
          (one-spelled h.of_first.symbol h.of_first.listed)
          (subst (λ m. Digits (lookup digits) 10 h.v behind.front m) (sym behind.of_next.is) all.0);
      exact = λ longer. subst (λ x. begins (is_in (only (codes "0"))) x ≡ false) (sym text)
          (not-zero h.of_first.symbol h.v h.of_first.listed (λ zero. let none = all.2 zero in
          omega (arith, ap length text, ap length none)));
      fits = omega (arith, all.1, behind.of_next.is);
    } where
      not-zero : (c d : ℕ) → lookup digits c ≡ Some d → (d ≡ 0 → ⊥) → is_in (only (codes "0")) c ≡ false
      not-zero c d listed some = cases (is_in (only (codes "0")) c) refl where
        cases : (b : Bool) → is_in (only (codes "0")) c ≡ b → b ≡ false
        cases true e = absurd (some (zero-digit c d listed e))
        cases false e = refl

exact-id : (t : List ℕ) (n : ℕ) → ExactId t n → chain_id t n
exact-id t n h =
    let number = h.number in
    let text : t ≡ number.of_first.symbol ∷ number.behind =
    number.parts ∙ ap (λ x. x ++ number.behind) number.of_first.alone in
    let all = digits-numbers number.v number.behind n number.of_next h.fits
    (λ zero. alone t number.of_first.symbol number.behind text h.exact
    (digit-zero number.of_first.symbol number.v number.of_first.listed zero)) in
    then-spelled (number.of_first.symbol ∷ []) number.behind number.v text
    (one-spelled number.of_first.symbol number.of_first.listed) (then-spelled number.behind [] all.0
    (sym (append-nil number.behind)) all.1 (record { empty = refl; is = sym all.2 })) where
      alone : (t : List ℕ) (c : ℕ) (s : List ℕ) → t ≡ c ∷ s → (1 < length t → begins
          (is_in (only (codes "0"))) t ≡ false) → is_in (only (codes "0")) c ≡ true → s ≡ []
      alone t c [] text exact zero = refl
      alone t c (d ∷ s) text exact zero = absurd (let other : is_in (only (codes "0")) c ≡ false =
          subst (λ x. begins (is_in (only (codes "0"))) x ≡ false) text
          (exact (omega (arith, ap length text))) in cc (zero, other))

-- ---- the readings agree

more-chain : (s : ℕ) (text : List ℕ) → (chain_at with_digit (λ s n rest. Ok (n, rest)) (λ s n. n)
    (λ s. true) (length text) s text >>= λ ns. Ok (last_of s ns.0, ns.1)) ≡ more_digits_at s text
more-chain s [] = refl
more-chain s (c ∷ text) = cases (with_digit s c) (λ n. more-chain n text) where
  answer : (s n : ℕ) (o : Outcome ℕ (List ℕ)) → ◌≡◌ {A = Outcome ℕ ℕ} ((o >>= λ vs. Ok
      (n ∷ vs.0, vs.1)) >>= λ ns. Ok (last_of s ns.0, ns.1)) (o >>= λ ns. Ok (last_of n ns.0, ns.1))
  answer s n (Ok x) = refl
  answer s n (Err rest) = refl

  cases : (found : Option ℕ) → ((n : ℕ) → (chain_at with_digit (λ s n rest. Ok (n, rest)) (λ s n. n)
      (λ s. true) (length text) n text >>= λ ns. Ok (last_of n ns.0, ns.1)) ≡ more_digits_at n text)
      → ◌≡◌ {A = Outcome ℕ ℕ} (elim found [
        | Some n ↦ chain_at with_digit (λ s n rest. Ok (n, rest)) (λ s n. n) (λ s. true)
            (length text) n text >>= λ vs. Ok (n ∷ vs.0, vs.1)
        | None ↦ Ok ([], c ∷ text)
      ] >>= λ ns. Ok (last_of s ns.0, ns.1)) (elim found [ Some n ↦ more_digits_at n text | None ↦ Ok (s, c ∷ text) ])
  cases (Some n) next = answer s n (chain_at with_digit (λ s n rest. Ok (n, rest)) (λ s n. n)
      (λ s. true) (length text) n text) ∙ next n
  cases None next = refl

reader-behind_first : (d : ℕ) → Reader (behind_first d) (more_digits_at d) (In (keys_of digits))
reader-behind_first d = reader-at (behind_first d) (λ text. chain_at with_digit (λ s n rest. Ok
    (n, rest)) (λ s n. n) (λ s. true) (length text) d text >>= λ ns. Ok (last_of d ns.0, ns.1))
    (more_digits_at d) (In (keys_of digits)) (more-chain d)
    (reader-map (numbers d) (λ text. chain_at with_digit (λ s n rest. Ok (n, rest)) (λ s n. n)
    (λ s. true) (length text) d text) (In (keys_of digits)) (last_of d)
    (reader-chain with_digit (λ s n. Spell n) (λ s n rest. Ok (n, rest)) (λ s n. n) (λ s. true)
    (In (keys_of digits)) (λ c. ⊥)
    (λ s n. reader-spell n (λ c. ⊥)) (λ s c h on. on) (λ c on. absurd on) (λ s c h. let w =
    with-digit s c h.0 h.1 in
    listed_in digits c (w.0, w.1)) (λ s. viable-by [] [] (refl, refl)) d))

-- an id, before whatever is no digit
pub reader-id : Reader ExactId id_at (In (keys_of digits))
unfolding id_at
reader-id = reader-same chain_id ExactId id_at (In (keys_of digits)) id-exact exact-id
    (reader-then (One (lookup digits)) behind_first (one_at (lookup digits))
    (λ d. more_digits_at d.0 d.1) (λ c. ⊥) (In (keys_of digits))
    (reader-one (lookup digits) (λ c. ⊥) (record { symbol = 48; v = 0; listed = refl })) reader-behind_first
    (λ v c s x h on. absurd on) (λ v x h c on. absurd on))
