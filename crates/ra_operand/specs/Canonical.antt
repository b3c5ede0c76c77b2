-- The canonical text of an operand: docs/DEFINITIONS.md, "Canonical text".
use Rattle.std.specs.Prelude.{ℕ, ◌-◌, false, List, [], ◌++◌, length, replicate, codes}
use Rattle.std.specs.Fmt.{digits, decimal}
use Rattle.ra_operand.specs.declared.kind.Kind.{Kind}
use Rattle.ra_operand.specs.declared.kind.Kind.TheVariants.{Mem, Delta, Prior, Bcd, Inverted}
use Rattle.ra_operand.specs.declared.operand.Operand.{Operand}
use Rattle.ra_operand.specs.declared.operand.Operand.TheVariants.{Cell, Const, Recall}
use Rattle.ra_operand.specs.declared.size.Size.{Size}
use Rattle.ra_operand.specs.declared.size.Size.TheVariants.{Bit0, Bit1, Bit2, Bit3, Bit4, Bit5, Bit6, Bit7, Low, High}
use Rattle.ra_operand.specs.declared.size.Size.TheVariants.{Byte, Two, Three, Four, Count, TwoBig, ThreeBig, FourBig}

-- the prefix of a kind, in lower case
abbrev pub prefix_of : Kind → List ℕ
prefix_of Mem = []
prefix_of Delta = codes "d"
prefix_of Prior = codes "p"
prefix_of Bcd = codes "b"
prefix_of Inverted = codes "~"

-- the letter of a size, in upper case, or the blank
abbrev pub letter_of : Size → List ℕ
letter_of Bit0 = codes "M"
letter_of Bit1 = codes "N"
letter_of Bit2 = codes "O"
letter_of Bit3 = codes "P"
letter_of Bit4 = codes "Q"
letter_of Bit5 = codes "R"
letter_of Bit6 = codes "S"
letter_of Bit7 = codes "T"
letter_of Low = codes "L"
letter_of High = codes "U"
letter_of Byte = codes "H"
letter_of Count = codes "K"
letter_of Two = codes " "
letter_of TwoBig = codes "I"
letter_of Three = codes "W"
letter_of ThreeBig = codes "J"
letter_of Four = codes "X"
letter_of FourBig = codes "G"

-- an address in lower-case hexadecimal, with zeros before it to at least four digits
abbrev pub address_text : ℕ → List ℕ
address_text address = let shortest = digits 16 false address in replicate (4 - length shortest) 48 ++ shortest

-- the text of an operand: prefix, `0x`, letter and address, or a constant in decimal, or `{recall}`
abbrev pub operand_text : Operand → List ℕ
operand_text (Cell kind size address) = prefix_of kind ++ (codes "0x" ++ (letter_of size ++ address_text address))
operand_text (Const n) = decimal n
operand_text Recall = codes "{recall}"
