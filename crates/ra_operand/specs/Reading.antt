-- Reading operands from left to right: the step between the code and docs/DEFINITIONS.md, "Operands".
use Rattle.std.specs.Prelude.{ℕ, ◌==◌, Bool, false, if◌then◌else◌, List, [], ◌∷◌, Ok, codes}
use Rattle.ra_operand.specs.declared.kind.Kind.TheVariants.{Mem}
use Rattle.ra_operand.specs.declared.operand.Operand.{Operand}
use Rattle.ra_operand.specs.declared.operand.Operand.TheVariants.{Cell, Const, Recall}
use Rattle.ra_operand.specs.declared.size.Size.TheVariants.{Two}
use Rattle.ra_operand.specs.Grammar.{kinds, sizes}
use Rattle.ra_text.specs.Reading.{Outcome, ◌>>=◌, one_at, optional_at, literal_at, choice_at, begins}
use Rattle.ra_text.specs.ReadingNumbers.{hexadecimal_at, signed_at}
use Rattle.ra_text.specs.Table.{lookup, is_in, only, only_letters}

-- [d | p | b | ~] 0x [size] hexnum
unfoldable pub memory_at : List ℕ → Outcome ℕ Operand
memory_at text = do
  kind ← optional_at (lookup kinds) Mem text
  zero ← one_at (only (codes "0")) kind.1
  x ← one_at (only_letters (codes "X")) zero.1
  size ← optional_at (lookup sizes) Two x.1
  address ← hexadecimal_at size.1
  Ok (Cell kind.0 size.0 address.0, address.1)

-- h hexnum
unfoldable pub hex_constant_at : List ℕ → Outcome ℕ Operand
hex_constant_at text = do
  h ← one_at (only_letters (codes "H")) text
  n ← hexadecimal_at h.1
  Ok (Const n.0, n.1)

-- [+ | -] dec
unfoldable pub decimal_constant_at : List ℕ → Outcome ℕ Operand
decimal_constant_at text = do
  n ← signed_at text
  Ok (Const n.0, n.1)

-- a constant after its `v`
unfoldable pub unsigned_at : List ℕ → Outcome ℕ Operand
unsigned_at = choice_at (begins (is_in (only_letters (codes "H")))) hex_constant_at decimal_constant_at

-- [v] and a constant
unfoldable pub constant_at : List ℕ → Outcome ℕ Operand
constant_at text = do
  v ← optional_at (only_letters (codes "V")) tt text
  unsigned_at v.1

-- {recall}
unfoldable pub recall_at : List ℕ → Outcome ℕ Operand
recall_at text = do
  word ← literal_at (codes "{recall}") text
  Ok (Recall, word.1)

-- a memory operand begins, with a prefix or `0x`; a 0 before another byte is a constant
abbrev pub begins_memory : List ℕ → Bool
begins_memory [] = false
begins_memory (byte ∷ rest) = if byte == 48 then begins (is_in (only_letters (codes "X"))) rest
    else is_in (lookup kinds) byte

-- memory, or a constant
unfoldable pub cell_or_constant_at : List ℕ → Outcome ℕ Operand
cell_or_constant_at = choice_at begins_memory memory_at constant_at

-- memory, a constant, or {recall}
unfoldable pub operand_at : List ℕ → Outcome ℕ Operand
operand_at = choice_at (begins (is_in (only (codes "{")))) recall_at cell_or_constant_at

-- the bytes that operands begin with
abbrev pub operand_starts : List ℕ
operand_starts = codes "{~+-0123456789dDpPbBvVhH"
