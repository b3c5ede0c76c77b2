-- The readers of the parts of a line.
use Rattle.std.proofs.Common.{◌≡◌, ◌≤◌, ℕ, ◌==◌, ◌&&◌, Bool, true, false, if◌then◌else◌, List, [], ◌∷◌, ◌++◌, length}
use Rattle.std.proofs.Common.{Option, Some, None, Ok, Err, refl, sym, ap, subst, codes, eqb-true}
use Rattle.ra_condition.specs.Grammar.{trigger}
use Rattle.ra_condition.specs.Reading.{trigger_at}
use Rattle.ra_condition.specs.ReadingValues.{value_at}
use Rattle.ra_condition.specs.Values.{value}
use Rattle.ra_condition.proofs.GroupReaders.{trigger_rest, reader-trigger}
use Rattle.ra_condition.proofs.ValueReaders.{value_rest, reader-value}
use Rattle.ra_richpresence.specs.Contents.{PieceContents, Shows}
use Rattle.ra_richpresence.specs.Grammar.{name, many, hex_key, key, range_end, range, keys, test, macro}
use Rattle.ra_richpresence.specs.Reading.{name_byte, name_at, run_at, hex_key_at, key_at, begins_x, range_end_at}
use Rattle.ra_richpresence.specs.Reading.{range_last_at, range_at, ranges_at, keys_at, test_at, macro_at}
use Rattle.ra_richpresence.proofs.Exact.{Closed, closed-reader}
use Rattle.ra_richpresence.proofs.Repeats.{reader-run}
use Rattle.ra_text.specs.Chain.{Chain, joined}
use Rattle.ra_text.specs.Form.{Form, Spell, One, Then, Viable, ◌or◌}
use Rattle.ra_text.specs.Number.{digits, hex_digits, decimal, hexadecimal, saturated}
use Rattle.ra_text.specs.Reading.{Outcome, Reads, rest_of, ◌>>=◌, one_at, taken}
use Rattle.ra_text.specs.ReadingNumbers.{decimal_at, hexadecimal_at, saturated_at, numeral_at}
use Rattle.ra_text.specs.Table.{lookup, is_in, only, only_letters, marks, letter_marks}
use Rattle.ra_text.proofs.Begins.{Begins, Firsts, IsListed, begins-one, begins-then, begins-or, begins-wider, firsts-or}
use Rattle.ra_text.proofs.Begins.{firsts-begins, firsts-spell, firsts-then, reader-behind, reader-follows}
use Rattle.ra_text.proofs.Chains.{reader-joined}
use Rattle.ra_text.proofs.Choice.{Picks, first, second, fails, shorter, reader-or}
use Rattle.ra_text.proofs.Either.{reader-map, reader-or_else, reads-fails, reads-takes_front}
use Rattle.ra_text.proofs.Numbers.{digits-stop, reader-decimal, begins-decimal, reader-hexadecimal}
use Rattle.ra_text.proofs.Readers.{Reader, Listed, reader-one, reader-spell, reader-then, reader-wider, reads-of}
use Rattle.ra_text.proofs.Steps.{reads-shorter, viable-front}
use Rattle.ra_text.proofs.Tables.{In, keys_of, listed_in, in_within, in_apart, begins-byte, is_in-in, not_in-in}
use Rattle.ra_text.proofs.Tables.{not_in-listed, passes, is_whole, whole-viable, opens-whole}

-- the one byte of a list of one
pub one_byte : (byte c : ℕ) → In (byte ∷ []) c → c ≡ byte
one_byte byte c here = cases (c == byte) refl here where
  cases : (same : Bool) → (c == byte) ≡ same → (if same then true else false) ≡ true → c ≡ byte
  cases true is e = eqb-true c byte is
  cases false is e = absurd (cc e)

-- ---- names

letter-listed : Listed name_byte
letter-listed = record { symbol = 97; v = 97; listed = refl }

pub reader-name : Reader name name_at (IsListed name_byte)
unfolding name_at
reader-name = reader-then (One name_byte) (λ first. Then (many (One name_byte))
    (λ others. Spell (first ∷ others))) (one_at name_byte) (λ first. run_at name_byte first.1
    >>= λ others. Ok (first.0 ∷ others.0, others.1)) (λ c. ⊥) (IsListed name_byte)
    (reader-one name_byte (λ c. ⊥) letter-listed)
    (λ first. reader-map (many (One name_byte)) (run_at name_byte) (IsListed name_byte)
    (λ others. first ∷ others) (reader-run name_byte))
    (λ first c s x h on. on) (λ first x h c on. absurd on)

-- ---- keys

reader-hex_key : Reader hex_key hex_key_at (In (keys_of hex_digits))
unfolding hex_key_at
reader-hex_key = reader-then (One (only (codes "0"))) (λ zero. Then (One (only_letters (codes "X")))
    (λ x. hexadecimal)) (one_at (only (codes "0"))) (λ zero. one_at (only_letters (codes "X"))
    zero.1 >>= λ x. hexadecimal_at x.1) (λ c. ⊥) (In (keys_of hex_digits))
    (reader-one (only (codes "0")) (λ c. ⊥) (record { symbol = 48; v = tt; listed = refl }))
    (λ zero. reader-then (One (only_letters (codes "X"))) (λ x. hexadecimal)
    (one_at (only_letters (codes "X"))) (λ x. hexadecimal_at x.1) (λ c. ⊥) (In (keys_of hex_digits))
    (reader-one (only_letters (codes "X")) (λ c. ⊥) (record { symbol = 88; v = tt; listed = refl }))
    (λ x. reader-hexadecimal) (λ x c s w h on. on) (λ x w h c on. absurd on))
    (λ zero c s w h on. on) (λ zero w h c on. absurd on)

reads-hex_key : (text : List ℕ) → Reads hex_key text (hex_key_at text)
reads-hex_key = reads-of hex_key hex_key_at (In (keys_of hex_digits)) reader-hex_key

reads-decimal : (text : List ℕ) → Reads decimal text (decimal_at text)
reads-decimal = reads-of decimal decimal_at (In (keys_of digits)) reader-decimal

begins-hex_key : Begins hex_key (In (codes "0"))
begins-hex_key = begins-then (One (only (codes "0"))) (λ zero. Then (One (only_letters (codes "X")))
    (λ x. hexadecimal)) (In (codes "0")) (begins-byte (marks (codes "0")))

-- what goes on with a key
abbrev pub key_rest : List ℕ
key_rest = keys_of hex_digits ++ codes "xX"

-- a zero and a letter x begin a hexadecimal key
zero_x-viable : (d : ℕ) → In (codes "Xx") d → Viable hex_key (48 ∷ d ∷ [])
unfolding hex_key_at saturated_at numeral_at
zero_x-viable d here = viable-front (48 ∷ d ∷ []) (48 ∷ []) (whole-viable hex_key (48 ∷ d ∷ 48 ∷ [])
    (hex_key_at (48 ∷ d ∷ 48 ∷ [])) (reads-hex_key (48 ∷ d ∷ 48 ∷ []))
    (passes (λ d. is_whole (hex_key_at (48 ∷ d ∷ 48 ∷ []))) (codes "Xx") refl d here))

-- a zero alone is a key
zero-viable : Viable decimal (48 ∷ [])
unfolding saturated_at numeral_at
zero-viable = whole-viable decimal (48 ∷ []) (decimal_at (48 ∷ [])) (reads-decimal (48 ∷ [])) refl

-- a decimal key ends before a letter x
zero-ends : (d : ℕ) (s : List ℕ) → lookup digits d ≡ None → decimal_at (48 ∷ d ∷ s) ≡ Ok (0, d ∷ s)
unfolding saturated_at numeral_at
zero-ends d s none = ap (λ o. o >>= λ n. Ok (saturated n.0, n.1)) (digits-stop (lookup digits) 10 0 d s none)

-- no letter x goes on with a zero alone
no_x : (d : ℕ) (s : List ℕ) → only_letters (codes "X") d ≡ None → hex_key_at (48 ∷ d ∷ s) ≡ Err (d ∷ s)
unfolding hex_key_at
no_x d s none = ap (λ found. taken found d s >>= λ x. hexadecimal_at x.1) none

-- without a zero no hexadecimal key begins
no_zero : (c : ℕ) (s : List ℕ) → only (codes "0") c ≡ None → hex_key_at (c ∷ s) ≡ Err (c ∷ s)
unfolding hex_key_at
no_zero c s none = ap (λ found. taken found c s >>= λ zero. one_at (only_letters (codes "X")) zero.1
    >>= λ x. hexadecimal_at x.1) none

not_found : {V : Type 0} (table : ℕ → Option V) (c : ℕ) → (found : Option V) → table c ≡ found
    → (IsListed table c → ⊥) → table c ≡ None
not_found table c (Some v) e never = absurd (never (v, e))
not_found table c None e never = e

key-picks : (text : List ℕ) → Picks (In key_rest) (hex_key_at text) (decimal_at text) (key_at text)
unfolding key_at hex_key_at
key-picks [] = second refl (fails [] (reads-fails (reads-hex_key []) begins-hex_key.not_empty
    (λ c s is. absurd (cc is))) (reads-shorter (reads-decimal [])))
key-picks (c ∷ text) = by_zero (is_in (only (codes "0")) c) refl where
  by_x : (d : ℕ) (s : List ℕ) (letter : Bool) → is_in (only_letters (codes "X")) d ≡ letter
      → Picks (In key_rest) (hex_key_at (48 ∷ d ∷ s)) (decimal_at (48 ∷ d ∷ s))
      (if letter then hex_key_at (48 ∷ d ∷ s) else decimal_at (48 ∷ d ∷ s))
  by_x d s true is =
      let here : In (codes "Xx") d = is_in-in (letter_marks (codes "X")) d is in
      first refl (shorter 0 d s (zero-ends d s (not_found (lookup digits) d (lookup digits d) refl
      (λ h. in_apart (codes "Xx") (keys_of digits) refl d here (listed_in digits d h))))
      (in_within (codes "Xx") key_rest refl d here)
      (reads-takes_front (48 ∷ d ∷ []) s (reads-hex_key (48 ∷ d ∷ s)) (zero_x-viable d here)))
  by_x d s false is = second refl (fails (d ∷ s) (no_x d s (not_found (only_letters (codes "X")) d
      (only_letters (codes "X") d) refl (not_in-listed (only_letters (codes "X")) d is)))
      (reads-takes_front (48 ∷ []) (d ∷ s) (reads-decimal (48 ∷ d ∷ s)) zero-viable))

  zero : (s : List ℕ) → Picks (In key_rest) (hex_key_at (48 ∷ s)) (decimal_at (48 ∷ s))
      (if begins_x s then hex_key_at (48 ∷ s) else decimal_at (48 ∷ s))
  zero [] = second refl (fails [] refl (reads-takes_front (48 ∷ []) [] (reads-decimal (48 ∷ [])) zero-viable))
  zero (d ∷ s) = by_x d s (is_in (only_letters (codes "X")) d) refl

  by_zero : (z : Bool) → is_in (only (codes "0")) c ≡ z
      → Picks (In key_rest) (hex_key_at (c ∷ text)) (decimal_at (c ∷ text)) (if z && begins_x text
      then hex_key_at (c ∷ text) else decimal_at (c ∷ text))
  by_zero true is = subst (λ x. Picks (In key_rest) (hex_key_at (x ∷ text)) (decimal_at (x ∷ text))
      (if begins_x text then hex_key_at (x ∷ text) else decimal_at (x ∷ text)))
      (sym (one_byte 48 c (is_in-in (marks (codes "0")) c is))) (zero text)
  by_zero false is = second refl (fails (c ∷ text)
      (no_zero c text (not_found (only (codes "0")) c (only (codes "0") c) refl
      (not_in-listed (only (codes "0")) c is))) (reads-shorter (reads-decimal (c ∷ text))))

pub reader-key : Reader key key_at (In key_rest)
reader-key = reader-or hex_key decimal hex_key_at decimal_at key_at (In key_rest)
    (reader-wider hex_key hex_key_at (In (keys_of hex_digits)) (In key_rest)
    (in_within (keys_of hex_digits) key_rest refl) reader-hex_key)
    (reader-wider decimal decimal_at (In (keys_of digits)) (In key_rest)
    (in_within (keys_of digits) key_rest refl) reader-decimal)
    key-picks

pub begins-key : Begins key (In (codes "0123456789"))
begins-key = begins-or hex_key decimal (In (codes "0123456789"))
    (begins-wider hex_key (In (codes "0")) (In (codes "0123456789"))
    (in_within (codes "0") (codes "0123456789") refl) begins-hex_key)
    (begins-wider decimal (In (keys_of digits)) (In (codes "0123456789"))
    (in_within (keys_of digits) (codes "0123456789") refl) begins-decimal)

-- ---- ranges of keys

reader-range_end : Reader range_end range_end_at (In key_rest)
unfolding range_end_at
reader-range_end = reader-then (One (only (codes "-"))) (λ dash. key) (one_at (only (codes "-")))
    (λ dash. key_at dash.1) (λ c. ⊥) (In key_rest)
    (reader-one (only (codes "-")) (λ c. ⊥) (record { symbol = 45; v = tt; listed = refl }))
    (λ dash. reader-key) (λ dash c s n h on. on) (λ dash n h c on. absurd on)

begins-range_end : Begins range_end (In (codes "-"))
begins-range_end = begins-then (One (only (codes "-"))) (λ dash. key) (In (codes "-")) (begins-byte (marks (codes "-")))

-- what goes on with a range
abbrev pub range_rest : List ℕ
range_rest = key_rest ++ codes "-"

opens-range_end : (c : ℕ) → In (codes "-") c → Viable range_end (c ∷ [])
unfolding range_end_at key_at saturated_at numeral_at
opens-range_end = opens-whole range_end range_end_at (reads-of range_end range_end_at
    (In key_rest) reader-range_end) (codes "-") (λ c. codes "0") refl

reader-range_last : (k : ℕ) → Reader (range_end or Spell k) (range_last_at k) (In range_rest)
unfolding range_last_at
reader-range_last k = reader-or_else range_end (Spell k) range_end_at (λ text. Ok (k, text))
    (is_in (only (codes "-"))) (In (codes "-")) (In range_rest)
    (reader-wider range_end range_end_at (In key_rest) (In range_rest) (in_within key_rest
    range_rest refl) reader-range_end) (reader-spell k (In range_rest)) begins-range_end
    (λ c is. opens-range_end c (is_in-in (marks (codes "-")) c is))
    (λ c is. in_within (codes "-") range_rest refl c (is_in-in (marks (codes "-")) c is))
    (λ c s v is h. absurd (cc h.empty)) (not_in-in (marks (codes "-")))

firsts-range_last : (k : ℕ) → Firsts (range_end or Spell k) (In (codes "-"))
firsts-range_last k = firsts-or range_end (Spell k) (In (codes "-"))
    (firsts-begins range_end (In (codes "-")) begins-range_end) (firsts-spell k (In (codes "-")))

pub reader-range : Reader range range_at (In range_rest)
unfolding range_at
reader-range = reader-follows key (λ first. Then (range_end or Spell first)
    (λ last. Spell (first, last))) key_at (λ first. range_last_at first.0 first.1
    >>= λ last. Ok ((first.0, last.0), last.1)) (In key_rest) (In (codes "-")) (In range_rest)
    reader-key
    (λ first. reader-map (range_end or Spell first) (range_last_at first) (In range_rest)
    (λ last. (first, last)) (reader-range_last first))
    (λ first. firsts-then (range_end or Spell first) (λ last. Spell (first, last)) (In (codes "-"))
    (firsts-range_last first) (λ last. firsts-spell (first, last) (In (codes "-"))))
    (in_apart key_rest (codes "-") refl) (in_within key_rest range_rest refl)

pub range-shorter : (text : List ℕ) → length (rest_of (range_at text)) ≤ length text
range-shorter text = reads-shorter (reads-of range range_at (In range_rest) reader-range text)

-- what goes on with ranges
abbrev ranges_rest : List ℕ
ranges_rest = range_rest ++ codes ","

reader-ranges : Reader (joined (only (codes ",")) range) ranges_at (In ranges_rest)
unfolding ranges_at
reader-ranges = reader-joined (only (codes ",")) range range_at (In ranges_rest) (In range_rest) reader-range
    (λ c h on. in_apart (codes ",") range_rest refl c (listed_in (marks (codes ",")) c h) on)
    (in_within range_rest ranges_rest refl)
    (λ c h. in_within (codes ",") ranges_rest refl c (listed_in (marks (codes ",")) c h))

reader-keys : Reader keys keys_at (λ c. ⊥)
unfolding keys_at
reader-keys = reader-behind (joined (only (codes ",")) range)
    (λ ranges. Then (One (only (codes "="))) (λ equals. Spell ranges)) ranges_at
    (λ ranges. one_at (only (codes "=")) ranges.1 >>= λ equals. Ok (ranges.0, equals.1))
    (In ranges_rest) (In (codes "=")) (λ c. ⊥) reader-ranges
    (λ ranges. reader-map (One (only (codes "="))) (one_at (only (codes "="))) (λ c. ⊥)
    (λ equals. ranges)
    (reader-one (only (codes "=")) (λ c. ⊥) (record { symbol = 61; v = tt; listed = refl })))
    (λ ranges. begins-then (One (only (codes "="))) (λ equals. Spell ranges) (In (codes "="))
    (begins-byte (marks (codes "="))))
    (in_apart ranges_rest (codes "=") refl)

pub closed-keys : Closed keys keys_at
closed-keys = closed-reader keys keys_at reader-keys

pub begins-keys : Begins keys (In (codes "0123456789"))
begins-keys = begins-then (joined (only (codes ",")) range)
    (λ ranges. Then (One (only (codes "="))) (λ equals. Spell ranges)) (In (codes "0123456789"))
    (begins-then range (λ first. Then (Chain {S = Unit {0}} (λ s. only (codes ",")) (λ s tag. range)
    (λ s v. s) (λ s. true) tt) (λ behind. Spell (first ∷ behind))) (In (codes "0123456789"))
    (begins-then key (λ first. Then (range_end or Spell first) (λ last. Spell (first, last)))
    (In (codes "0123456789")) begins-key))

-- ---- tests and macros

reader-test : Reader test test_at (λ c. ⊥)
unfolding test_at
reader-test = reader-then (One (only (codes "?"))) (λ opening. Then trigger
    (λ found. Then (One (only (codes "?"))) (λ closing. Spell found))) (one_at (only (codes "?")))
    (λ opening. trigger_at opening.1 >>= λ found. one_at (only (codes "?")) found.1
    >>= λ closing. Ok (found.0, closing.1)) (λ c. ⊥) (λ c. ⊥)
    (reader-one (only (codes "?")) (λ c. ⊥) (record { symbol = 63; v = tt; listed = refl }))
    (λ opening. reader-behind trigger (λ found. Then (One (only (codes "?")))
    (λ closing. Spell found)) trigger_at
    (λ found. one_at (only (codes "?")) found.1 >>= λ closing. Ok (found.0, closing.1))
    (In trigger_rest) (In (codes "?")) (λ c. ⊥) reader-trigger
    (λ found. reader-map (One (only (codes "?"))) (one_at (only (codes "?"))) (λ c. ⊥) (λ closing.
    found) (reader-one (only (codes "?")) (λ c. ⊥) (record { symbol = 63; v = tt; listed = refl })))
    (λ found. begins-then (One (only (codes "?"))) (λ closing. Spell found) (In (codes "?"))
    (begins-byte (marks (codes "?"))))
    (in_apart trigger_rest (codes "?") refl))
    (λ opening c s x h on. on) (λ opening x h c on. on)

pub closed-test : Closed test test_at
closed-test = closed-reader test test_at reader-test

pub reads-test : (text : List ℕ) → Reads test text (test_at text)
reads-test = reads-of test test_at (λ c. ⊥) reader-test

-- the macro behind its name
macro_value : List ℕ → Form ℕ PieceContents
macro_value macro_name = Then (One (only (codes "("))) (λ opening. Then value
    (λ shown. Then (One (only (codes ")"))) (λ closing. Spell (Shows macro_name shown))))

macro_value_at : List ℕ → List ℕ → Outcome ℕ PieceContents
macro_value_at macro_name text = do
  opening ← one_at (only (codes "(")) text
  shown ← value_at opening.1
  closing ← one_at (only (codes ")")) shown.1
  Ok (Shows macro_name shown.0, closing.1)

reader-macro_value : (macro_name : List ℕ) → Reader (macro_value macro_name) (macro_value_at macro_name) (λ c. ⊥)
unfolding macro_value macro_value_at
reader-macro_value macro_name = reader-then (One (only (codes "(")))
    (λ opening. Then value (λ shown. Then (One (only (codes ")")))
    (λ closing. Spell (Shows macro_name shown)))) (one_at (only (codes "(")))
    (λ opening. value_at opening.1 >>= λ shown. one_at (only (codes ")")) shown.1
    >>= λ closing. Ok (Shows macro_name shown.0, closing.1)) (λ c. ⊥) (λ c. ⊥)
    (reader-one (only (codes "(")) (λ c. ⊥) (record { symbol = 40; v = tt; listed = refl }))
    (λ opening. reader-behind value (λ shown. Then (One (only (codes ")")))
    (λ closing. Spell (Shows macro_name shown))) value_at (λ shown. one_at
    (only (codes ")")) shown.1 >>= λ closing. Ok (Shows macro_name shown.0, closing.1))
    (In value_rest) (In (codes ")")) (λ c. ⊥) reader-value
    (λ shown. reader-map (One (only (codes ")"))) (one_at (only (codes ")"))) (λ c. ⊥)
    (λ closing. Shows macro_name shown)
    (reader-one (only (codes ")")) (λ c. ⊥) (record { symbol = 41; v = tt; listed = refl })))
    (λ shown. begins-then (One (only (codes ")"))) (λ closing. Spell (Shows macro_name shown))
    (In (codes ")")) (begins-byte (marks (codes ")"))))
    (in_apart value_rest (codes ")") refl))
    (λ opening c s x h on. on) (λ opening x h c on. on)

-- no bracket stands in a name
name-no_bracket : (c : ℕ) → IsListed name_byte c → In (codes "(") c → ⊥
name-no_bracket c h here = let same : c ≡ 40 = one_byte 40 c here in
    let none : name_byte c ≡ None = subst (λ x. name_byte x ≡ None) (sym same) refl in
    let some : name_byte c ≡ Some h.0 = h.1 in cc (none, some)

reader-macro : Reader macro macro_at (λ c. ⊥)
unfolding macro_value macro_value_at macro_at
reader-macro = reader-then (One (only (codes "@"))) (λ at. Then name macro_value) (one_at
    (only (codes "@"))) (λ at. name_at at.1 >>= λ n. macro_value_at n.0 n.1) (λ c. ⊥) (λ c. ⊥)
    (reader-one (only (codes "@")) (λ c. ⊥) (record { symbol = 64; v = tt; listed = refl }))
    (λ at. reader-behind name macro_value name_at (λ n. macro_value_at n.0 n.1) (IsListed name_byte)
    (In (codes "(")) (λ c. ⊥) reader-name reader-macro_value
    (λ n. begins-then (One (only (codes "("))) (λ opening. Then value
    (λ shown. Then (One (only (codes ")"))) (λ closing. Spell (Shows n shown)))) (In (codes "("))
    (begins-byte (marks (codes "("))))
    name-no_bracket)
    (λ at c s x h on. on) (λ at x h c on. on)

pub closed-macro : Closed macro macro_at
closed-macro = closed-reader macro macro_at reader-macro

pub reads-macro : (text : List ℕ) → Reads macro text (macro_at text)
reads-macro = reads-of macro macro_at (λ c. ⊥) reader-macro

pub begins-macro : Begins macro (In (codes "@"))
unfolding macro_value
begins-macro = begins-then (One (only (codes "@"))) (λ at. Then name macro_value) (In (codes "@"))
    (begins-byte (marks (codes "@")))
