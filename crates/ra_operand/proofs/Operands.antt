-- The readers of operands.
use Rattle.std.proofs.Common.{◌≡◌, ℕ, Bool, true, false, ◌==◌, if◌then◌else◌, List, [], ◌∷◌, ◌++◌, Option, Some, None}
use Rattle.std.proofs.Common.{Ok, Err, refl, sym, ap, subst, codes, eqb-true}
use Rattle.ra_operand.specs.declared.kind.Kind.{Kind}
use Rattle.ra_operand.specs.declared.kind.Kind.TheVariants.{Mem}
use Rattle.ra_operand.specs.declared.operand.Operand.{Operand}
use Rattle.ra_operand.specs.declared.operand.Operand.TheVariants.{Cell, Const, Recall}
use Rattle.ra_operand.specs.declared.size.Size.{Size}
use Rattle.ra_operand.specs.declared.size.Size.TheVariants.{Two}
use Rattle.ra_operand.specs.Grammar.{kinds, sizes, memory, hex_constant, decimal_constant, constant, recall, operand}
use Rattle.ra_operand.specs.Reading.{memory_at, hex_constant_at, decimal_constant_at, unsigned_at, constant_at}
use Rattle.ra_operand.specs.Reading.{recall_at, cell_or_constant_at, operand_at}
use Rattle.ra_text.specs.Form.{Form, Spell, One, Literal, Then, Viable, ◌or◌, optional}
use Rattle.ra_text.specs.Number.{digits, hex_digits, signs, hexadecimal, signed, saturated, with_sign}
use Rattle.ra_text.specs.Reading.{Outcome, Reads, ◌>>=◌, one_at, optional_at, literal_at, begins}
use Rattle.ra_text.specs.ReadingNumbers.{hexadecimal_at, signed_at, saturated_at, numeral_at}
use Rattle.ra_text.specs.Table.{lookup, is_in, only, only_letters, marks, letter_marks}
use Rattle.ra_text.proofs.Begins.{Begins, IsListed, begins-or, begins-then, begins-past, begins-wider, firsts-or}
use Rattle.ra_text.proofs.Begins.{firsts-begins, firsts-spell, reader-behind}
use Rattle.ra_text.proofs.Choice.{Picks, first, second, fails, shorter, reader-or, reader-optional}
use Rattle.ra_text.proofs.Either.{reader-map, reader-literal, begins-literal, reader-by_test, reads-fails}
use Rattle.ra_text.proofs.Either.{reads-takes_front}
use Rattle.ra_text.proofs.Numbers.{digits-stop, reader-hexadecimal, begins-hexadecimal, reader-signed, begins-signed}
use Rattle.ra_text.proofs.Readers.{Reader, Listed, reader-one, reader-wider, reads-of}
use Rattle.ra_text.proofs.Steps.{reads-shorter, viable-front}
use Rattle.ra_text.proofs.Tables.{In, keys_of, listed_in, in_within, in_apart, in_front, begins-byte, is_in-in}
use Rattle.ra_text.proofs.Tables.{not_in-in, not_in-listed, passes, is_whole, whole-viable}

-- ---- the bytes that operands begin with and go on with

-- a form behind an optional byte
begins-optional : {V W : Type 0} (table : List (ℕ × V)) (none : V) (next : V → Form ℕ W)
    (keys : List ℕ) → ((c : ℕ) → In (keys_of table) c → In keys c) → ((v : V)
    → Begins (next v) (In keys)) → Begins (Then (optional (lookup table) none) next) (In keys)
begins-optional table none next keys within begins_next = begins-past (optional (lookup table) none) next (In keys)
    (firsts-or (One (lookup table)) (Spell none) (In keys)
    (firsts-begins (One (lookup table)) (In keys) (begins-wider (One (lookup table))
    (In (keys_of table)) (In keys) within (begins-byte table))) (firsts-spell none (In keys)))
    begins_next

-- ---- memory

abbrev cell : Kind → Size → Form ℕ Operand
cell kind size = Then hexadecimal (λ address. Spell (Cell kind size address))

abbrev sized : Kind → Form ℕ Operand
sized kind = Then (optional (lookup sizes) Two) (λ size. cell kind size)

abbrev after_zero : Kind → Form ℕ Operand
after_zero kind = Then (One (only_letters (codes "X"))) (λ x. sized kind)

abbrev from_zero : Kind → Form ℕ Operand
from_zero kind = Then (One (only (codes "0"))) (λ zero. after_zero kind)

abbrev sized_at : Kind → List ℕ → Outcome ℕ Operand
sized_at kind text = optional_at (lookup sizes) Two text >>= λ size. hexadecimal_at size.1
    >>= λ address. Ok (Cell kind size.0 address.0, address.1)

abbrev after_zero_at : Kind → List ℕ → Outcome ℕ Operand
after_zero_at kind text = one_at (only_letters (codes "X")) text >>= λ x. sized_at kind x.1

abbrev from_zero_at : Kind → List ℕ → Outcome ℕ Operand
from_zero_at kind text = one_at (only (codes "0")) text >>= λ zero. after_zero_at kind zero.1

listed-sizes : Listed (lookup sizes)
listed-sizes = record { symbol = 32; v = Two; listed = refl }

listed-x : Listed (only_letters (codes "X"))
listed-x = record { symbol = 88; v = tt; listed = refl }

listed-zero : Listed (only (codes "0"))
listed-zero = record { symbol = 48; v = tt; listed = refl }

reader-sized : (kind : Kind) → Reader (sized kind) (sized_at kind) (In (keys_of hex_digits))
reader-sized kind = reader-behind (optional (lookup sizes) Two) (λ size. cell kind size)
    (optional_at (lookup sizes) Two)
    (λ size. hexadecimal_at size.1 >>= λ address. Ok (Cell kind size.0 address.0, address.1))
    (IsListed (lookup sizes)) (In (keys_of hex_digits)) (In (keys_of hex_digits))
    (reader-optional (lookup sizes) Two listed-sizes)
    (λ size. reader-map hexadecimal hexadecimal_at (In (keys_of hex_digits))
    (λ address. Cell kind size address) reader-hexadecimal)
    (λ size. begins-then hexadecimal (λ address. Spell (Cell kind size address))
    (In (keys_of hex_digits)) begins-hexadecimal)
    (λ c on here. in_apart (keys_of sizes) (keys_of hex_digits) refl c (listed_in sizes c on) here)

reader-after_zero : (kind : Kind) → Reader (after_zero kind) (after_zero_at kind) (In (keys_of hex_digits))
reader-after_zero kind = reader-behind (One (only_letters (codes "X"))) (λ x. sized kind)
    (one_at (only_letters (codes "X"))) (λ x. sized_at kind x.1)
    (λ c. ⊥) (In (keys_of sizes ++ keys_of hex_digits)) (In (keys_of hex_digits))
    (reader-one (only_letters (codes "X")) (λ c. ⊥) listed-x)
    (λ x. reader-sized kind)
    (λ x. begins-optional sizes Two (λ size. cell kind size) (keys_of sizes ++ keys_of hex_digits)
    (in_within (keys_of sizes) (keys_of sizes ++ keys_of hex_digits) refl)
    (λ size. begins-then hexadecimal (λ address. Spell (Cell kind size address))
    (In (keys_of sizes ++ keys_of hex_digits))
    (begins-wider hexadecimal (In (keys_of hex_digits)) (In (keys_of sizes ++ keys_of hex_digits))
    (in_within (keys_of hex_digits) (keys_of sizes ++ keys_of hex_digits) refl)
    begins-hexadecimal)))
    (λ c on here. on)

reader-from_zero : (kind : Kind) → Reader (from_zero kind) (from_zero_at kind) (In (keys_of hex_digits))
reader-from_zero kind = reader-behind (One (only (codes "0"))) (λ zero. after_zero kind)
    (one_at (only (codes "0"))) (λ zero. after_zero_at kind zero.1)
    (λ c. ⊥) (In (keys_of (letter_marks (codes "X")))) (In (keys_of hex_digits))
    (reader-one (only (codes "0")) (λ c. ⊥) listed-zero)
    (λ zero. reader-after_zero kind)
    (λ zero. begins-then (One (only_letters (codes "X"))) (λ x. sized kind)
    (In (keys_of (letter_marks (codes "X")))) (begins-byte (letter_marks (codes "X"))))
    (λ c on here. on)

begins-from_zero : (kind : Kind) → Begins (from_zero kind) (In (keys_of (marks (codes "0"))))
begins-from_zero kind = begins-then (One (only (codes "0"))) (λ zero. after_zero kind)
    (In (keys_of (marks (codes "0")))) (begins-byte (marks (codes "0")))

pub reader-memory : Reader memory memory_at (In (keys_of hex_digits))
unfolding memory_at
reader-memory = reader-behind (optional (lookup kinds) Mem) from_zero
    (optional_at (lookup kinds) Mem) (λ kind. from_zero_at kind.0 kind.1)
    (IsListed (lookup kinds)) (In (keys_of (marks (codes "0")))) (In (keys_of hex_digits))
    (reader-optional (lookup kinds) Mem (record { symbol = 126; v = _; listed = refl }))
    reader-from_zero begins-from_zero
    (λ c on here. in_apart (keys_of kinds) (keys_of (marks (codes "0"))) refl c (listed_in kinds c on) here)

-- memory begins with a prefix or a 0
pub begins-memory : Begins memory (In (keys_of kinds ++ codes "0"))
begins-memory = begins-optional kinds Mem from_zero (keys_of kinds ++ codes "0")
    (in_within (keys_of kinds) (keys_of kinds ++ codes "0") refl)
    (λ kind. begins-wider (from_zero kind) (In (keys_of (marks (codes "0"))))
    (In (keys_of kinds ++ codes "0")) (in_within (keys_of (marks (codes "0")))
    (keys_of kinds ++ codes "0") refl) (begins-from_zero kind))

-- ---- constants

reader-hex_constant : Reader hex_constant hex_constant_at (In (keys_of hex_digits))
unfolding hex_constant_at
reader-hex_constant = reader-behind (One (only_letters (codes "H")))
    (λ h. Then hexadecimal (λ n. Spell (Const n))) (one_at (only_letters (codes "H")))
    (λ h. hexadecimal_at h.1 >>= λ n. Ok (Const n.0, n.1))
    (λ c. ⊥) (In (keys_of hex_digits)) (In (keys_of hex_digits))
    (reader-one (only_letters (codes "H")) (λ c. ⊥) (record { symbol = 72; v = tt; listed = refl }))
    (λ h. reader-map hexadecimal hexadecimal_at (In (keys_of hex_digits)) (λ n. Const n) reader-hexadecimal)
    (λ h. begins-then hexadecimal (λ n. Spell (Const n)) (In (keys_of hex_digits)) begins-hexadecimal)
    (λ c on here. on)

begins-hex_constant : Begins hex_constant (In (keys_of (letter_marks (codes "H"))))
begins-hex_constant = begins-then (One (only_letters (codes "H"))) (λ h. Then hexadecimal
    (λ n. Spell (Const n))) (In (keys_of (letter_marks (codes "H"))))
    (begins-byte (letter_marks (codes "H")))

reader-decimal_constant : Reader decimal_constant decimal_constant_at (In (keys_of hex_digits))
unfolding decimal_constant_at
reader-decimal_constant = reader-map signed signed_at (In (keys_of hex_digits)) (λ n. Const n)
    (reader-wider signed signed_at (In (keys_of digits)) (In (keys_of hex_digits))
    (in_within (keys_of digits) (keys_of hex_digits) refl) reader-signed)

begins-decimal_constant : Begins decimal_constant (In (keys_of signs ++ keys_of digits))
begins-decimal_constant = begins-then signed (λ n. Spell (Const n)) (In (keys_of signs ++ keys_of digits)) begins-signed

reader-unsigned : Reader (hex_constant or decimal_constant) unsigned_at (In (keys_of hex_digits))
unfolding unsigned_at
reader-unsigned = reader-by_test hex_constant decimal_constant hex_constant_at decimal_constant_at
    (is_in (only_letters (codes "H")))
    (In (keys_of (letter_marks (codes "H")))) (In (keys_of signs ++ keys_of digits)) (In (keys_of hex_digits))
    reader-hex_constant reader-decimal_constant begins-hex_constant begins-decimal_constant
    (λ c is here. in_apart (keys_of (letter_marks (codes "H")))
    (keys_of signs ++ keys_of digits) refl c (is_in-in (letter_marks (codes "H")) c is) here)
    (not_in-in (letter_marks (codes "H")))

-- what a constant without a `v` begins with
begins-unsigned : Begins (hex_constant or decimal_constant) (In (codes "Hh+-0123456789"))
begins-unsigned = begins-or hex_constant decimal_constant (In (codes "Hh+-0123456789"))
    (begins-wider hex_constant (In (keys_of (letter_marks (codes "H"))))
    (In (codes "Hh+-0123456789")) (in_within (keys_of (letter_marks (codes "H")))
    (codes "Hh+-0123456789") refl) begins-hex_constant)
    (begins-wider decimal_constant (In (keys_of signs ++ keys_of digits))
    (In (codes "Hh+-0123456789")) (in_within (keys_of signs ++ keys_of digits)
    (codes "Hh+-0123456789") refl) begins-decimal_constant)

pub reader-constant : Reader constant constant_at (In (keys_of hex_digits))
unfolding constant_at
reader-constant = reader-behind (optional (only_letters (codes "V")) tt) (λ v. hex_constant or
    decimal_constant) (optional_at (only_letters (codes "V")) tt) (λ v. unsigned_at v.1)
    (IsListed (only_letters (codes "V"))) (In (codes "Hh+-0123456789")) (In (keys_of hex_digits))
    (reader-optional (only_letters (codes "V")) tt (record { symbol = 86; v = tt; listed = refl }))
    (λ v. reader-unsigned) (λ v. begins-unsigned)
    (λ c on here. in_apart (keys_of (letter_marks (codes "V"))) (codes "Hh+-0123456789") refl c
    (listed_in (letter_marks (codes "V")) c on) here)

pub begins-constant : Begins constant (In (codes "VvHh+-0123456789"))
begins-constant = begins-optional (letter_marks (codes "V")) tt
    (λ v. hex_constant or decimal_constant) (codes "VvHh+-0123456789")
    (in_within (keys_of (letter_marks (codes "V"))) (codes "VvHh+-0123456789") refl)
    (λ v. begins-wider (hex_constant or decimal_constant) (In (codes "Hh+-0123456789"))
    (In (codes "VvHh+-0123456789"))
    (in_within (codes "Hh+-0123456789") (codes "VvHh+-0123456789") refl) begins-unsigned)

-- ---- memory or a constant: a 0 begins either

-- the bytes that go on with a whole operand
abbrev pub operand_rest : List ℕ
operand_rest = keys_of hex_digits ++ codes "Xx"

memory-fails : (text : List ℕ) → ((c : ℕ) (s : List ℕ) → text ≡ c ∷ s
    → In (keys_of kinds ++ codes "0") c → ⊥) → memory_at text ≡ Err text
memory-fails text never = reads-fails (reads-of memory memory_at (In (keys_of hex_digits))
    reader-memory text) begins-memory.not_empty
    (λ c s is t v h. never c s is (begins-memory.first c t v h))

constant-fails : (c : ℕ) (s : List ℕ) → (In (codes "VvHh+-0123456789") c → ⊥) → constant_at (c ∷ s) ≡ Err (c ∷ s)
constant-fails c s never = reads-fails (reads-of constant constant_at (In (keys_of hex_digits))
    reader-constant (c ∷ s)) begins-constant.not_empty (λ d t is t' v h. never (let same : d ≡ c =
    cc is in subst (λ x. In (codes "VvHh+-0123456789") x) same (begins-constant.first d t' v h)))

reads-memory : (text : List ℕ) → Reads memory text (memory_at text)
reads-memory = reads-of memory memory_at (In (keys_of hex_digits)) reader-memory

reads-constant : (text : List ℕ) → Reads constant text (constant_at text)
reads-constant = reads-of constant constant_at (In (keys_of hex_digits)) reader-constant

-- a 0 begins a constant
zero-constant : Viable constant (48 ∷ [])
unfolding constant_at unsigned_at decimal_constant_at signed_at saturated_at numeral_at
zero-constant = whole-viable constant (48 ∷ []) (constant_at (48 ∷ [])) (reads-constant (48 ∷ [])) refl

-- before another byte than an X a 0 is no memory
zero-no_memory : (c : ℕ) (s : List ℕ) → only_letters (codes "X") c ≡ None → memory_at (48 ∷ c ∷ s) ≡ Err (c ∷ s)
unfolding memory_at
zero-no_memory c s none = rw none

-- `0x` begins memory, and its 0 is no longer constant
zero-memory : (c : ℕ) → In (keys_of (letter_marks (codes "X"))) c → Viable memory (48 ∷ c ∷ [])
unfolding memory_at saturated_at numeral_at
zero-memory c here = viable-front (48 ∷ c ∷ []) (48 ∷ []) (whole-viable memory (48 ∷ c ∷ 48 ∷ [])
    (memory_at (48 ∷ c ∷ 48 ∷ [])) (reads-memory (48 ∷ c ∷ 48 ∷ []))
    (passes (λ c. is_whole (memory_at (48 ∷ c ∷ 48 ∷ []))) (keys_of (letter_marks (codes "X"))) refl c here))

zero-then_x : (c : ℕ) (s : List ℕ) → lookup digits c ≡ None → constant_at (48 ∷ c ∷ s) ≡ Ok (Const 0, c ∷ s)
unfolding constant_at unsigned_at decimal_constant_at signed_at saturated_at numeral_at
zero-then_x c s none = ap (λ o. ((o >>= λ n. Ok (saturated n.0, n.1)) >>= λ n. Ok
    (with_sign false n.0, n.1)) >>= λ n. Ok (Const n.0, n.1))
    (digits-stop (lookup digits) 10 0 c s none)

cell_or_constant-picks : (text : List ℕ)
    → Picks (In operand_rest) (memory_at text) (constant_at text) (cell_or_constant_at text)
unfolding cell_or_constant_at memory_at
cell_or_constant-picks [] = second refl
    (fails [] (memory-fails [] (λ c s is here. absurd (cc is))) (reads-shorter (reads-constant [])))
cell_or_constant-picks (c ∷ text) = by_zero (c == 48) refl where
  by_x : (d : ℕ) (s : List ℕ) → (letter : Bool) → is_in (only_letters (codes "X")) d ≡ letter
      → Picks (In operand_rest) (memory_at (48 ∷ d ∷ s)) (constant_at (48 ∷ d ∷ s))
      (if letter then memory_at (48 ∷ d ∷ s) else constant_at (48 ∷ d ∷ s))
  by_x d s true is =
      let key : In (keys_of (letter_marks (codes "X"))) d = is_in-in (letter_marks (codes "X")) d is in
      first refl (shorter (Const 0) d s (zero-then_x d s
      (not_listed (lookup digits d) refl (λ h. in_apart (keys_of (letter_marks (codes "X")))
      (keys_of digits) refl d key (listed_in digits d h))))
      (in_within (keys_of (letter_marks (codes "X"))) operand_rest refl d key)
      (reads-takes_front (48 ∷ d ∷ []) s (reads-memory (48 ∷ d ∷ s)) (zero-memory d key))) where
        not_listed : (found : Option ℕ) → lookup digits d ≡ found → (IsListed (lookup digits) d → ⊥)
            → lookup digits d ≡ None
        not_listed (Some v) e never = absurd (never (v, e))
        not_listed None e never = e
  by_x d s false is = second refl (fails (d ∷ s)
      (zero-no_memory d s (not_in (only_letters (codes "X") d) refl is))
      (reads-takes_front (48 ∷ []) (d ∷ s) (reads-constant (48 ∷ d ∷ s)) zero-constant)) where
        not_in : (found : Option (Unit {0})) → only_letters (codes "X") d ≡ found
            → is_in (only_letters (codes "X")) d ≡ false → only_letters (codes "X") d ≡ None
        not_in (Some v) e out = absurd (not_in-listed (only_letters (codes "X")) d out (v, e))
        not_in None e out = e

  zero : (s : List ℕ) → Picks (In operand_rest) (memory_at (48 ∷ s)) (constant_at (48 ∷ s)) (if
      begins (is_in (only_letters (codes "X"))) s then memory_at (48 ∷ s) else constant_at (48 ∷ s))
  zero [] = second refl (fails [] refl (reads-takes_front (48 ∷ []) [] (reads-constant (48 ∷ [])) zero-constant))
  zero (d ∷ s) = by_x d s (is_in (only_letters (codes "X")) d) refl

  by_kind : (c == 48) ≡ false → (prefix : Bool) → is_in (lookup kinds) c ≡ prefix
      → Picks (In operand_rest) (memory_at (c ∷ text)) (constant_at (c ∷ text))
      (if prefix then memory_at (c ∷ text) else constant_at (c ∷ text))
  by_kind no_zero true is = first refl (fails (c ∷ text)
      (constant-fails c text (λ here. in_apart (keys_of kinds) (codes "VvHh+-0123456789") refl c
      (is_in-in kinds c is) here)) (reads-shorter (reads-memory (c ∷ text))))
  by_kind no_zero false is = second refl (fails (c ∷ text) (memory-fails (c ∷ text) (λ d s e here.
      never (let same : d ≡ c = cc e in subst (λ x. In (keys_of kinds ++ codes "0") x) same here)))
      (reads-shorter (reads-constant (c ∷ text)))) where
        never : In (keys_of kinds ++ codes "0") c → ⊥
        never here = not_in-in kinds c is (in_front (keys_of kinds) 48 c no_zero here)

  by_zero : (z : Bool) → (c == 48) ≡ z → Picks (In operand_rest) (memory_at (c ∷ text))
      (constant_at (c ∷ text)) (if (if z then begins (is_in (only_letters (codes "X"))) text
      else is_in (lookup kinds) c) then memory_at (c ∷ text) else constant_at (c ∷ text))
  by_zero true is = let same : 48 ≡ c = sym (eqb-true c 48 is) in subst (λ x. Picks (In
      operand_rest) (memory_at (x ∷ text)) (constant_at (x ∷ text)) (if begins (is_in (only_letters
      (codes "X"))) text then memory_at (x ∷ text) else constant_at (x ∷ text))) same (zero text)
  by_zero false is = by_kind is (is_in (lookup kinds) c) refl

-- ---- the whole form

reader-cell_or_constant : Reader (memory or constant) cell_or_constant_at (In operand_rest)
reader-cell_or_constant = reader-or memory constant memory_at constant_at cell_or_constant_at (In operand_rest)
    (reader-wider memory memory_at (In (keys_of hex_digits)) (In operand_rest)
    (in_within (keys_of hex_digits) operand_rest refl) reader-memory)
    (reader-wider constant constant_at (In (keys_of hex_digits)) (In operand_rest)
    (in_within (keys_of hex_digits) operand_rest refl) reader-constant)
    cell_or_constant-picks

-- what memory and constants begin with
abbrev pub cell_or_constant_keys : List ℕ
cell_or_constant_keys = keys_of kinds ++ codes "VvHh+-0123456789"

begins-cell_or_constant : Begins (memory or constant) (In cell_or_constant_keys)
begins-cell_or_constant = begins-or memory constant (In cell_or_constant_keys)
    (begins-wider memory (In (keys_of kinds ++ codes "0")) (In cell_or_constant_keys)
    (in_within (keys_of kinds ++ codes "0") cell_or_constant_keys refl) begins-memory)
    (begins-wider constant (In (codes "VvHh+-0123456789")) (In cell_or_constant_keys)
    (in_within (codes "VvHh+-0123456789") cell_or_constant_keys refl) begins-constant)

reader-recall : Reader recall recall_at (In operand_rest)
unfolding recall_at
reader-recall = reader-map (Literal (codes "{recall}")) (literal_at (codes "{recall}"))
    (In operand_rest) (λ word. Recall) (reader-literal (codes "{recall}") (In operand_rest))

begins-recall : Begins recall (In (keys_of (marks (codes "{"))))
begins-recall = begins-then (Literal (codes "{recall}")) (λ word. Spell Recall) (In (keys_of (marks (codes "{"))))
    (begins-wider (Literal (codes "{recall}")) (λ c. c ≡ 123) (In (keys_of (marks (codes "{"))))
    (λ c is. subst (λ x. In (keys_of (marks (codes "{"))) x) (sym is) refl)
    (begins-literal 123 (codes "recall}")))

pub reader-operand : Reader operand operand_at (In operand_rest)
unfolding operand_at
reader-operand = reader-by_test recall (memory or constant) recall_at cell_or_constant_at
    (is_in (only (codes "{"))) (In (keys_of (marks (codes "{")))) (In cell_or_constant_keys)
    (In operand_rest)
    reader-recall reader-cell_or_constant begins-recall begins-cell_or_constant
    (λ c is here. in_apart (keys_of (marks (codes "{"))) cell_or_constant_keys refl c
    (is_in-in (marks (codes "{")) c is) here)
    (not_in-in (marks (codes "{")))

-- the bytes that operands begin with
abbrev pub operand_keys : List ℕ
operand_keys = codes "{" ++ cell_or_constant_keys

pub begins-operand : Begins operand (In operand_keys)
begins-operand = begins-or recall (memory or constant) (In operand_keys)
    (begins-wider recall (In (keys_of (marks (codes "{")))) (In operand_keys)
    (in_within (keys_of (marks (codes "{"))) operand_keys refl) begins-recall)
    (begins-wider (memory or constant) (In cell_or_constant_keys) (In operand_keys)
    (in_within cell_or_constant_keys operand_keys refl) begins-cell_or_constant)

pub reads-operand : (text : List ℕ) → Reads operand text (operand_at text)
reads-operand = reads-of operand operand_at (In operand_rest) reader-operand
