-- The grammar of operands: docs/DEFINITIONS.md, "Operands".
use Rattle.std.specs.Prelude.{ℕ, List, ◌++◌, codes}
use Rattle.ra_operand.specs.declared.kind.Kind.{Kind}
use Rattle.ra_operand.specs.declared.kind.Kind.TheVariants.{Mem, Delta, Prior, Bcd, Inverted}
use Rattle.ra_operand.specs.declared.operand.Operand.{Operand}
use Rattle.ra_operand.specs.declared.operand.Operand.TheVariants.{Cell, Const, Recall}
use Rattle.ra_operand.specs.declared.size.Size.{Size}
use Rattle.ra_operand.specs.declared.size.Size.TheVariants.{Bit0, Bit1, Bit2, Bit3, Bit4, Bit5, Bit6, Bit7, Low, High}
use Rattle.ra_operand.specs.declared.size.Size.TheVariants.{Byte, Two, Three, Four, Count, TwoBig, ThreeBig, FourBig}
use Rattle.ra_text.specs.Form.{Form, Spell, One, Literal, ◌>>=◌, ◌or◌, optional}
use Rattle.ra_text.specs.Number.{hexadecimal, signed}
use Rattle.ra_text.specs.Table.{lookup, letters, bytes_for, only, only_letters}

-- the prefixes of operands, letters in either case, with their kinds
abbrev pub kinds : List (ℕ × Kind)
kinds = letters (codes "D") Delta ++ letters (codes "P") Prior ++ letters (codes "B") Bcd
    ++ bytes_for (codes "~") Inverted

-- the letters of the sizes, in either case, and the blank
abbrev pub sizes : List (ℕ × Size)
sizes =
    letters (codes "M") Bit0 ++ letters (codes "N") Bit1 ++ letters (codes "O") Bit2
    ++ letters (codes "P") Bit3 ++ letters (codes "Q") Bit4 ++ letters (codes "R") Bit5
    ++ letters (codes "S") Bit6 ++ letters (codes "T") Bit7 ++ letters (codes "L") Low
    ++ letters (codes "U") High ++ letters (codes "H") Byte ++ letters (codes "K") Count
    ++ bytes_for (codes " ") Two ++ letters (codes "I") TwoBig ++ letters (codes "W") Three
    ++ letters (codes "J") ThreeBig ++ letters (codes "X") Four ++ letters (codes "G") FourBig

-- [d | p | b | ~] 0x [size] hexnum: plain without a prefix, and 16 bits without a size
abbrev pub memory : Form ℕ Operand
memory = do
  kind ← optional (lookup kinds) Mem
  zero ← One (only (codes "0"))
  x ← One (only_letters (codes "X"))
  size ← optional (lookup sizes) Two
  address ← hexadecimal
  Spell (Cell kind size address)

-- h hexnum
abbrev pub hex_constant : Form ℕ Operand
hex_constant = do
  h ← One (only_letters (codes "H"))
  n ← hexadecimal
  Spell (Const n)

-- [+ | -] dec
abbrev pub decimal_constant : Form ℕ Operand
decimal_constant = do
  n ← signed
  Spell (Const n)

-- [v] h hexnum  |  [v] [+ | -] dec
abbrev pub constant : Form ℕ Operand
constant = do
  v ← optional (only_letters (codes "V")) tt
  hex_constant or decimal_constant

-- "{recall}", in lower case alone
abbrev pub recall : Form ℕ Operand
recall = do
  word ← Literal (codes "{recall}")
  Spell Recall

-- memory | const | {recall}
abbrev pub operand : Form ℕ Operand
operand = recall or (memory or constant)
