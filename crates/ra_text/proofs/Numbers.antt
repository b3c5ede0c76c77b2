-- The readers of numbers.
use Rattle.std.proofs.Common.{◌≡◌, ◌∙◌, ℕ, ◌+◌, ◌*◌, ◌≤◌, min, Bool, true, false, is_ok, if◌then◌else◌, List, [], ◌∷◌}
use Rattle.std.proofs.Common.{◌++◌, length, Option, Some, None, Ok, Err, refl, sym, ap, subst, arith, le_refl}
use Rattle.ra_text.specs.Form.{Form, Spell, One, Then}
use Rattle.ra_text.specs.Table.{lookup, is_in}
use Rattle.ra_text.specs.declared.base.Base.{Base}
use Rattle.ra_text.specs.declared.base.Base.TheVariants.{Ten}
use Rattle.ra_text.specs.Number.{digit_of, base_of, behind_sign, BeginsIn, digits, hex_digits, Digits, numeral}
use Rattle.ra_text.specs.Number.{saturated, decimal, hexadecimal, signs, sign, with_sign, signed}
use Rattle.ra_text.specs.Reading.{Outcome, Reads, ◌>>=◌, one_at, optional_at, taken, taken_or, begins}
use Rattle.ra_text.specs.ReadingNumbers.{digits_at, numeral_at, saturated_at, decimal_at, hexadecimal_at, signed_at}
use Rattle.ra_text.proofs.Steps.{reads-more, reads-step}
use Rattle.ra_text.proofs.Readers.{Reader, reader-one, reader-at, reader-then, Listed, reads-of, reader-wider}
use Rattle.ra_text.proofs.Begins.{Begins, IsListed, begins-one, begins-then, begins-wider, reader-behind, firsts-or}
use Rattle.ra_text.proofs.Begins.{firsts-begins, firsts-spell, begins-past}
use Rattle.ra_text.proofs.Choice.{reader-optional}
use Rattle.ra_text.proofs.Either.{reader-map}
use Rattle.ra_text.proofs.Tables.{In, keys_of, listed_in, in_apart, in_within, begins-byte}
use Rattle.ra_text.proofs.Spelled.{then-spelled}

-- no digit at all
no-digits : {W : Type 0} (table : ℕ → Option ℕ) (base so_far : ℕ) (K : ℕ → Form ℕ W) (t : List ℕ)
    (w : W) → K so_far t w → Then (Digits table base so_far) K t w
no-digits table base so_far K t w h = then-spelled [] t so_far refl refl h

-- a digit, and the others
digit-more : {W : Type 0} (table : ℕ → Option ℕ) (base so_far : ℕ) (K : ℕ → Form ℕ W) (c d : ℕ)
    → table c ≡ Some d → (t : List ℕ) (w : W) → Then (Digits table base (so_far * base + d)) K t w
    → Then (Digits table base so_far) K (c ∷ t) w
digit-more table base so_far K c d listed t w h = then-spelled (c ∷ h.front) h.behind h.v
    (ap (λ x. c ∷ x) h.parts) (d, listed, h.of_first) h.of_next

-- digits, of which the first is this one
digits-first : (table : ℕ → Option ℕ) (base so_far c : ℕ) (front : List ℕ) (n : ℕ)
    → Digits table base so_far (c ∷ front) n → IsListed table c
digits-first table base so_far c front n h = (h.0, h.1)

digits-next : (table : ℕ → Option ℕ) (base so_far c d : ℕ) (front : List ℕ) (n : ℕ) → table c ≡ Some
    d → Digits table base so_far (c ∷ front) n → Digits table base (so_far * base + d) front n
digits-next table base so_far c d front n listed h = let same : h.0 ≡ d =
    (let both : Some h.0 ≡ Some d = sym h.1 ∙ listed in cc both) in
    subst (λ x. Digits table base (so_far * base + x) front n) same h.2

-- before what does not begin with a digit, a text that begins with none has none
digits-none : {W : Type 0} (table : ℕ → Option ℕ) (base so_far : ℕ) (K : ℕ → Form ℕ W) (t : List ℕ)
    (w : W) → ((c : ℕ) (s : List ℕ) → t ≡ c ∷ s → IsListed table c → ⊥)
    → Then (Digits table base so_far) K t w → K so_far t w
digits-none {W} table base so_far K t w none h =
    subst (λ x. K so_far x w) (sym h.parts) (cases h.front h.parts h.of_first) where
      cases : (front : List ℕ) → t ≡ front ++ h.behind → Digits table base so_far front h.v
          → K so_far (front ++ h.behind) w
      cases [] parts first = subst (λ x. K x h.behind w) first h.of_next
      cases (c ∷ front) parts first =
          absurd (none c (front ++ h.behind) parts (digits-first table base so_far c front h.v first))

digits-some : {W : Type 0} (table : ℕ → Option ℕ) (base so_far : ℕ) (K : ℕ → Form ℕ W) (c d : ℕ)
    → table c ≡ Some d → ((n : ℕ) (s : List ℕ) (w : W) → K n (c ∷ s) w → ⊥) → (t : List ℕ) (w : W)
    → Then (Digits table base so_far) K (c ∷ t) w
    → Then (Digits table base (so_far * base + d)) K t w
digits-some {W} table base so_far K c d listed ends t w h = cases h.front h.parts h.of_first where
  cases : (front : List ℕ) → c ∷ t ≡ front ++ h.behind → Digits table base so_far front h.v
      → Then (Digits table base (so_far * base + d)) K t w
  cases [] parts first = absurd (ends h.v t w (subst (λ x. K h.v x w) (sym parts) h.of_next))
  cases (e ∷ front) parts first =
      let same : e ≡ c = cc parts in then-spelled front h.behind h.v (cc parts)
      (digits-next table base so_far c d front h.v listed
      (subst (λ x. Digits table base so_far (x ∷ front) h.v) same first)) h.of_next

module _ (table : ℕ → Option ℕ) (base : ℕ) where
  reads-digits : {W : Type 0} (K : ℕ → Form ℕ W) (k : ℕ × List ℕ → Outcome ℕ W) (text : List ℕ) (so_far : ℕ)
      → ((n : ℕ) (rest : List ℕ) → length rest ≤ length text → Reads (K n) rest (k (n, rest)))
      → ((n : ℕ) (c : ℕ) (s : List ℕ) (w : W) → K n (c ∷ s) w → IsListed table c → ⊥)
      → Reads (Then (Digits table base so_far) K) text (digits_at table base so_far text >>= k)
  reads-digits K k [] so_far reads ends =
      reads-more (K so_far) (Then (Digits table base so_far) K) (no-digits table base so_far K)
      (λ t w alike h. digits-none table base so_far K t w (λ c s e on. let n : []
      ≡ c ∷ (alike c s e).0 = (alike c s e).1 in cc n) h)
      (reads so_far [] (le_refl 0))
  reads-digits {W} K k (c ∷ text) so_far reads ends = decided (table c) refl (λ d. reads-digits K k
      text (so_far * base + d) (λ n rest le. reads n rest (omega arith)) ends) where
        decided : (found : Option ℕ) → table c ≡ found → ((d : ℕ) → Reads (Then (Digits table base
            (so_far * base + d)) K) text (digits_at table base (so_far * base + d) text >>= k))
            → Reads (Then (Digits table base so_far) K) (c ∷ text) (elim found [
              | Some d ↦
                  digits_at table base (so_far * base + d) text
              | None ↦ Ok (so_far, c ∷ text)
            ] >>= k)
        decided None e next = reads-more (K so_far) (Then (Digits table base so_far) K) (no-digits table base so_far K)
            (λ t w alike h. digits-none table base so_far K t w (λ x s is on.
            let same : c ≡ x = (let both : c ∷ text ≡ x ∷ (alike x s is).0 = (alike x s is).1 in cc both) in
            let n : table x ≡ None = subst (λ x. table x ≡ None) same e in
            let y : table x ≡ Some on.0 = on.1 in cc (n, y)) h)
            (reads so_far (c ∷ text) (le_refl (length (c ∷ text))))
        decided (Some d) e next = reads-step (Then (Digits table base so_far) K) (Then (Digits table
            base (so_far * base + d)) K) c text (digits_at table base (so_far * base + d) text >>= k)
            (digit-more table base so_far K c d e)
            (digits-some table base so_far K c d e (λ n s w h. ends n c s w h (d, e))) (next d)

  -- any digits
  pub reader-digits : (so_far : ℕ) → Reader (Digits table base so_far) (digits_at table base so_far) (IsListed table)
  reader-digits so_far = record { before = λ W K k text reads ends. reads-digits K k text so_far reads ends }

  -- one or more digits
  pub reader-numeral : Listed table → Reader (numeral table base) (numeral_at table base) (IsListed table)
  unfolding numeral_at
  reader-numeral listed = reader-then (One table) (λ d. Digits table base d) (one_at table)
      (λ x. digits_at table base x.0 x.1) (λ c. ⊥) (IsListed table)
      (reader-one table (λ c. ⊥) listed) (λ d. reader-digits d) (λ d c s n h on. on) (λ d n h c on. absurd on)

  pub begins-numeral : Begins (numeral table base) (IsListed table)
  begins-numeral = begins-then (One table) (λ d. Digits table base d) (IsListed table) (begins-one table)

pub reader-decimal : Reader decimal decimal_at (In (keys_of digits))
unfolding saturated_at
reader-decimal = reader-map (numeral (lookup digits) 10) (numeral_at (lookup digits) 10) (In (keys_of digits)) saturated
    (reader-wider (numeral (lookup digits) 10) (numeral_at (lookup digits) 10)
    (IsListed (lookup digits)) (In (keys_of digits)) (listed_in digits)
    (reader-numeral (lookup digits) 10 (record { symbol = 48; v = 0; listed = refl })))

pub begins-decimal : Begins decimal (In (keys_of digits))
begins-decimal = begins-then (numeral (lookup digits) 10) (λ n. Spell (saturated n))
    (In (keys_of digits)) (begins-wider (numeral (lookup digits) 10) (IsListed (lookup digits))
    (In (keys_of digits)) (listed_in digits) (begins-numeral (lookup digits) 10))

pub reader-hexadecimal : Reader hexadecimal hexadecimal_at (In (keys_of hex_digits))
unfolding saturated_at
reader-hexadecimal = reader-map (numeral (lookup hex_digits) 16) (numeral_at (lookup hex_digits) 16)
    (In (keys_of hex_digits)) saturated
    (reader-wider (numeral (lookup hex_digits) 16) (numeral_at (lookup hex_digits) 16)
    (IsListed (lookup hex_digits)) (In (keys_of hex_digits)) (listed_in hex_digits)
    (reader-numeral (lookup hex_digits) 16 (record { symbol = 48; v = 0; listed = refl })))

pub begins-hexadecimal : Begins hexadecimal (In (keys_of hex_digits))
begins-hexadecimal = begins-then (numeral (lookup hex_digits) 16) (λ n. Spell (saturated n))
    (In (keys_of hex_digits)) (begins-wider (numeral (lookup hex_digits) 16)
    (IsListed (lookup hex_digits)) (In (keys_of hex_digits)) (listed_in hex_digits)
    (begins-numeral (lookup hex_digits) 16))

-- a number that was saturated before its sign is the same
pub with_sign-saturated : (negative : Bool) (n : ℕ) → with_sign negative (saturated n) ≡ with_sign negative n
with_sign-saturated true n = let same : min (min n 4294967295) 2147483648 ≡ min n 2147483648 = omega arith in rw same
with_sign-saturated false n = omega arith

-- the digits behind a sign
behind-sign : Bool → Form ℕ ℕ
behind-sign negative = Then (numeral (lookup digits) 10) (λ n. Spell (with_sign negative n))

sign-last : (negative : Bool) (o : Outcome ℕ ℕ) → (o >>= λ n. Ok (with_sign negative n.0, n.1))
    ≡ ((o >>= λ n. Ok (saturated n.0, n.1)) >>= λ n. Ok (with_sign negative n.0, n.1))
sign-last negative (Ok n) = ap (λ x. Ok (x, n.1)) (sym (with_sign-saturated negative n.0))
sign-last negative (Err rest) = refl

read-behind : (o : Outcome ℕ Bool) (f g : Bool × List ℕ → Outcome ℕ ℕ)
    → ((x : Bool × List ℕ) → f x ≡ g x) → (o >>= f) ≡ (o >>= g)
read-behind (Ok x) f g same = same x
read-behind (Err rest) f g same = refl

pub reader-signed : Reader signed signed_at (In (keys_of digits))
unfolding behind-sign signed_at saturated_at
reader-signed = reader-at signed (λ text. optional_at (lookup signs) false text >>= λ x. numeral_at
    (lookup digits) 10 x.1 >>= λ n. Ok (with_sign x.0 n.0, n.1)) signed_at (In (keys_of digits))
    (λ text. read-behind (optional_at (lookup signs) false text) (λ x. numeral_at (lookup digits) 10
    x.1 >>= λ n. Ok (with_sign x.0 n.0, n.1)) (λ x. decimal_at x.1 >>= λ n. Ok
    (with_sign x.0 n.0, n.1)) (λ x. sign-last x.0 (numeral_at (lookup digits) 10 x.1)))
    (reader-behind sign behind-sign (optional_at (lookup signs) false)
    (λ x. numeral_at (lookup digits) 10 x.1 >>= λ n. Ok (with_sign x.0 n.0, n.1))
    (IsListed (lookup signs)) (In (keys_of digits)) (In (keys_of digits))
    (reader-optional (lookup signs) false (record { symbol = 43; v = false; listed = refl }))
    (λ negative. reader-map (numeral (lookup digits) 10) (numeral_at (lookup digits) 10)
    (In (keys_of digits)) (with_sign negative)
    (reader-wider (numeral (lookup digits) 10) (numeral_at (lookup digits) 10)
    (IsListed (lookup digits)) (In (keys_of digits)) (listed_in digits)
    (reader-numeral (lookup digits) 10 (record { symbol = 48; v = 0; listed = refl }))))
    (λ negative. begins-then (numeral (lookup digits) 10) (λ n. Spell (with_sign negative n))
    (In (keys_of digits)) (begins-wider (numeral (lookup digits) 10) (IsListed (lookup digits))
    (In (keys_of digits)) (listed_in digits) (begins-numeral (lookup digits) 10)))
    (λ c on here. in_apart (keys_of signs) (keys_of digits) refl c (listed_in signs c on) here))

-- a signed number begins with a sign or a digit
pub begins-signed : Begins signed (In (keys_of signs ++ keys_of digits))
unfolding behind-sign
begins-signed = begins-past sign behind-sign (In (keys_of signs ++ keys_of digits))
    (firsts-or (One (lookup signs)) (Spell false) (In (keys_of signs ++ keys_of digits))
    (firsts-begins (One (lookup signs)) (In (keys_of signs ++ keys_of digits))
    (begins-wider (One (lookup signs)) (In (keys_of signs)) (In (keys_of signs ++ keys_of digits))
    (in_within (keys_of signs) (keys_of signs ++ keys_of digits) refl) (begins-byte signs)))
    (firsts-spell false (In (keys_of signs ++ keys_of digits))))
    (λ negative. begins-wider (behind-sign negative) (In (keys_of digits)) (In (keys_of signs
    ++ keys_of digits)) (in_within (keys_of digits) (keys_of signs ++ keys_of digits) refl)
    (begins-then (numeral (lookup digits) 10) (λ n. Spell (with_sign negative n))
    (In (keys_of digits)) (begins-wider (numeral (lookup digits) 10) (IsListed (lookup digits))
    (In (keys_of digits)) (listed_in digits) (begins-numeral (lookup digits) 10))))

-- what the code's reading gives
pub reads-decimal : (text : List ℕ) → Reads decimal text (decimal_at text)
reads-decimal = reads-of decimal decimal_at (In (keys_of digits)) reader-decimal

pub reads-hexadecimal : (text : List ℕ) → Reads hexadecimal text (hexadecimal_at text)
reads-hexadecimal = reads-of hexadecimal hexadecimal_at (In (keys_of hex_digits)) reader-hexadecimal

pub reads-signed : (text : List ℕ) → Reads signed text (signed_at text)
reads-signed = reads-of signed signed_at (In (keys_of digits)) reader-signed

-- digits end before another byte
pub digits-stop : (table : ℕ → Option ℕ) (base n c : ℕ) (s : List ℕ) → table c ≡ None
    → digits_at table base n (c ∷ s) ≡ Ok (n, c ∷ s)
digits-stop table base n c s none = rw (none, digits_at)

-- digits are read to their end, whatever it is
digits-ok : (table : ℕ → Option ℕ) (base so_far : ℕ) (text : List ℕ) → is_ok (digits_at table base so_far text) ≡ true
digits-ok table base so_far [] = refl
digits-ok table base so_far (c ∷ text) = decided (table c) (λ d. digits-ok table base (so_far * base + d) text) where
  decided : (found : Option ℕ) → ((d : ℕ) → is_ok (digits_at table base (so_far * base + d) text) ≡ true)
      → is_ok (elim found as (λ o. Outcome ℕ ℕ) [
        | Some d ↦
            digits_at table base (so_far * base + d) text
        | None ↦ Ok (so_far, c ∷ text)
      ]) ≡ true
  decided (Some d) next = next d
  decided None next = refl

-- a number is read exactly where a digit stands
saturated-ok : (base : Base) (text : List ℕ) → is_ok (saturated_at base text) ≡ begins (is_in (digit_of base)) text
unfolding saturated_at numeral_at
saturated-ok base [] = refl
saturated-ok base (c ∷ text) = decided (digit_of base c) where
  ends-ok : (o : Outcome ℕ ℕ) → is_ok o ≡ true → is_ok (o >>= λ n. Ok (saturated n.0, n.1)) ≡ true
  ends-ok (Ok x) e = refl
  ends-ok (Err rest) e = absurd (cc e)

  decided : (found : Option ℕ) → is_ok ((taken found c text
      >>= λ d. digits_at (digit_of base) (base_of base) d.0 d.1) >>= λ n. Ok (saturated n.0, n.1))
      ≡ elim found [ Some d ↦ true | None ↦ false ]
  decided (Some d) = ends-ok (digits_at (digit_of base) (base_of base) d text)
      (digits-ok (digit_of base) (base_of base) d text)
  decided None = refl

pub some-digit : (base : Base) (text : List ℕ) (n : ℕ) (rest : List ℕ) → saturated_at base text
    ≡ Ok (n, rest) → BeginsIn (digit_of base) text
some-digit base text n rest e = sym (saturated-ok base text) ∙ ap is_ok e

pub no-digit : (base : Base) (text rest : List ℕ) → saturated_at base text ≡ Err rest
    → BeginsIn (digit_of base) text → ⊥
no-digit base text rest e b = let none : is_ok (saturated_at base text) ≡ false = ap is_ok e in
    let some : is_ok (saturated_at base text) ≡ true = saturated-ok base text ∙ b in cc (none, some)

-- behind one optional sign
signed-ok : (text : List ℕ) → is_ok (signed_at text) ≡ is_ok (decimal_at (behind_sign text))
unfolding signed_at
signed-ok [] = ends (saturated_at Ten []) false where
  ends : (o : Outcome ℕ ℕ) (negative : Bool) → is_ok (o >>= λ n. Ok (with_sign negative n.0, n.1)) ≡ is_ok o
  ends (Ok x) negative = refl
  ends (Err rest) negative = refl
signed-ok (c ∷ text) = decided (lookup signs c) where
  ends : (o : Outcome ℕ ℕ) (negative : Bool) → is_ok (o >>= λ n. Ok (with_sign negative n.0, n.1)) ≡ is_ok o
  ends (Ok x) negative = refl
  ends (Err rest) negative = refl

  decided : (found : Option Bool) → is_ok (taken_or false found c text
      >>= λ negative. decimal_at negative.1 >>= λ n. Ok (with_sign negative.0 n.0, n.1))
      ≡ is_ok (decimal_at (if elim found [ Some v ↦ true | None ↦ false ] then text else c ∷ text))
  decided (Some negative) = ends (saturated_at Ten text) negative
  decided None = ends (saturated_at Ten (c ∷ text)) false

pub some-signed : (text : List ℕ) (n : ℕ) (rest : List ℕ) → signed_at text ≡ Ok (n, rest)
    → BeginsIn (lookup digits) (behind_sign text)
some-signed text n rest e = sym (saturated-ok Ten (behind_sign text)) ∙ sym (signed-ok text) ∙ ap is_ok e

pub no-signed : (text rest : List ℕ) → signed_at text ≡ Err rest → BeginsIn (lookup digits) (behind_sign text) → ⊥
no-signed text rest e b = let none : is_ok (signed_at text) ≡ false = ap is_ok e in
    let some : is_ok (signed_at text) ≡ true = signed-ok text ∙ saturated-ok Ten (behind_sign text)
    ∙ b in cc (none, some)
