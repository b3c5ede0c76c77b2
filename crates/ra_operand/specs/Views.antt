-- What each size views of a cell, and what each kind makes of the view: docs/DEFINITIONS.md, "Sizes" and "Kinds of
-- operands".
use Rattle.std.specs.Prelude.{ℕ, zero, suc, ◌+◌, ◌-◌, ◌*◌, ◌/◌, ◌%◌, ◌^◌, bit_and, bit_xor, count_ones}
use Rattle.ra_operand.specs.declared.size.Size.{Size}
use Rattle.ra_operand.specs.declared.size.Size.TheVariants.{Bit0, Bit1, Bit2, Bit3, Bit4, Bit5, Bit6, Bit7, Low, High}
use Rattle.ra_operand.specs.declared.size.Size.TheVariants.{Byte, Two, Three, Four, Count, TwoBig, ThreeBig, FourBig}
use Rattle.ra_operand.specs.declared.kind.Kind.{Kind}
use Rattle.ra_operand.specs.declared.kind.Kind.TheVariants.{Bcd, Inverted}

-- how many bytes the cell of a size has
abbrev pub width_of : Size → ℕ
width_of Two = 2
width_of TwoBig = 2
width_of Three = 4
width_of ThreeBig = 4
width_of Four = 4
width_of FourBig = 4
width_of _ = 1

-- the bits of the cell's number that a size views
abbrev pub mask_of : Size → ℕ
mask_of Bit0 = 0x01
mask_of Bit1 = 0x02
mask_of Bit2 = 0x04
mask_of Bit3 = 0x08
mask_of Bit4 = 0x10
mask_of Bit5 = 0x20
mask_of Bit6 = 0x40
mask_of Bit7 = 0x80
mask_of Low = 0x0F
mask_of High = 0xF0
mask_of Byte = 0xFF
mask_of Count = 0xFF
mask_of Two = 0xFFFF
mask_of TwoBig = 0xFFFF
mask_of Three = 0xFFFFFF
mask_of ThreeBig = 0xFFFFFF
mask_of Four = 0xFFFFFFFF
mask_of FourBig = 0xFFFFFFFF

-- the number of this many lowest bytes of a number, in reverse
abbrev pub reversed : ℕ → ℕ → ℕ
reversed zero n = 0
reversed (suc bytes) n = n % 256 * 256 ^ bytes + reversed bytes (n / 256)

-- what a size shows of its masked bits: a bit or the upper nibble moved down, a count of ones, bytes in reverse
abbrev pub shown_of : Size → ℕ → ℕ
shown_of Bit1 bits = bits / 2
shown_of Bit2 bits = bits / 4
shown_of Bit3 bits = bits / 8
shown_of Bit4 bits = bits / 16
shown_of Bit5 bits = bits / 32
shown_of Bit6 bits = bits / 64
shown_of Bit7 bits = bits / 128
shown_of High bits = bits / 16
shown_of Count bits = count_ones bits
shown_of TwoBig bits = reversed 2 bits
shown_of ThreeBig bits = reversed 3 bits
shown_of FourBig bits = reversed 4 bits
shown_of _ bits = bits

-- the view of a cell's number: it looks at the masked bits alone
abbrev pub view_of : Size → ℕ → ℕ
view_of size raw = shown_of size (bit_and raw (mask_of size))

-- how many bits the view of a size has
abbrev pub bits_of : Size → ℕ
bits_of Low = 4
bits_of High = 4
bits_of Byte = 8
bits_of Count = 8
bits_of Two = 16
bits_of TwoBig = 16
bits_of Three = 24
bits_of ThreeBig = 24
bits_of Four = 32
bits_of FourBig = 32
bits_of _ = 1

-- this many lowest hexadecimal digits of a number, read as decimal ones
abbrev pub as_decimal : ℕ → ℕ → ℕ
as_decimal zero x = 0
as_decimal (suc digits) x = x % 16 + 10 * as_decimal digits (x / 16)

-- what a kind of operand makes of a view
abbrev pub transformed : Kind → Size → ℕ → ℕ
transformed Bcd size x = as_decimal 8 x
transformed Inverted size x = bit_xor x (2 ^ bits_of size - 1)
transformed _ size x = x
