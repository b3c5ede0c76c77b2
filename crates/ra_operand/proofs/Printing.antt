-- What printing writes, and that it spells the operand again.
use Rattle.std.proofs.Common.{◌≡◌, ◌∙◌, ◌++◌, ◌<◌, inl, inr, ℕ, ◌-◌, ◌^◌, false, List, [], length, replicate}
use Rattle.std.proofs.Common.{option_map, Some, Option, refl, sym, ap, subst, arith, append-nil, codes}
use Rattle.std.specs.Fmt.{digits, decimal, padded_integral, char_count, format_spec, AppendsText, ◌++?◌}
use Rattle.ra_operand.specs.declared.kind.Kind.{Kind}
use Rattle.ra_operand.specs.declared.kind.Kind.TheVariants.{Mem, Delta, Prior, Bcd, Inverted}
use Rattle.ra_operand.specs.declared.operand.Operand.{Operand}
use Rattle.ra_operand.specs.declared.operand.Operand.TheVariants.{Cell, Const, Recall}
use Rattle.ra_operand.specs.declared.size.Size.{Size}
use Rattle.ra_operand.specs.declared.size.Size.TheVariants.{Bit0, Bit1, Bit2, Bit3, Bit4, Bit5, Bit6, Bit7, Low, High}
use Rattle.ra_operand.specs.declared.size.Size.TheVariants.{Byte, Two, Three, Four, Count, TwoBig, ThreeBig, FourBig}
use Rattle.ra_operand.specs.Canonical.{prefix_of, letter_of, address_text, operand_text}
use Rattle.ra_operand.specs.Fitting.{Fits32}
use Rattle.ra_operand.specs.Grammar.{kinds, sizes, memory, hex_constant, decimal_constant, operand}
use Rattle.ra_text.specs.Form.{◌or◌, optional}
use Rattle.ra_text.specs.Table.{lookup}
use Rattle.ra_text.proofs.Numerals.{hexadecimal-spelled, signed-spelled, hexadecimal-fits, signed-fits}
use Rattle.ra_text.proofs.Spelled.{then-spelled, none-spelled, one-spelled}

-- what `{:04x}` writes of a number
pub four-digits : (shortest : List ℕ) → padded_integral (format_spec 32 0 4 4 (2 ^ 64 - 1)) false []
    shortest ≡ replicate (4 - length shortest) 48 ++ shortest
unfolding padded_integral char_count
four-digits shortest = let same : 4 - length shortest - 0 - 0 ≡ 4 - length shortest = omega arith in
    rw (same, append-nil)

-- what is written of an address, from the digits that are padded
pub styled-address : (output : Option (List ℕ)) (address : ℕ) → output
    ≡ Some (digits 16 false address) → option_map (padded_integral
    (format_spec 32 0 4 4 (2 ^ 64 - 1)) false []) output ≡ Some (address_text address)
styled-address output address is = ap (λ o. option_map (padded_integral (format_spec 32 0 4 4
    (2 ^ 64 - 1)) false []) o) is ∙ ap (λ t. Some t) (four-digits (digits 16 false address))

pub cell-text : (old new prefix letter : List ℕ) (styled : Option (List ℕ)) (address : ℕ) → styled
    ≡ Some (address_text address)
    → AppendsText old new (Some prefix ++? (Some (codes "0x") ++? (Some letter ++? styled))) → new
    ≡ old ++ (prefix ++ (codes "0x" ++ (letter ++ address_text address)))
cell-text old new prefix letter styled address is h = subst
    (λ o. AppendsText old new (Some prefix ++? (Some (codes "0x") ++? (Some letter ++? o)))) is h

-- the prefix of a kind is read as that kind
prefix-spelled : (kind : Kind) → optional (lookup kinds) Mem (prefix_of kind) kind
prefix-spelled Mem = inr none-spelled
prefix-spelled Delta = inl (one-spelled 100 refl)
prefix-spelled Prior = inl (one-spelled 112 refl)
prefix-spelled Bcd = inl (one-spelled 98 refl)
prefix-spelled Inverted = inl (one-spelled 126 refl)

-- the letter of a size is read as that size
letter-spelled : (size : Size) → optional (lookup sizes) Two (letter_of size) size
letter-spelled Bit0 = inl (one-spelled 77 refl)
letter-spelled Bit1 = inl (one-spelled 78 refl)
letter-spelled Bit2 = inl (one-spelled 79 refl)
letter-spelled Bit3 = inl (one-spelled 80 refl)
letter-spelled Bit4 = inl (one-spelled 81 refl)
letter-spelled Bit5 = inl (one-spelled 82 refl)
letter-spelled Bit6 = inl (one-spelled 83 refl)
letter-spelled Bit7 = inl (one-spelled 84 refl)
letter-spelled Low = inl (one-spelled 76 refl)
letter-spelled High = inl (one-spelled 85 refl)
letter-spelled Byte = inl (one-spelled 72 refl)
letter-spelled Count = inl (one-spelled 75 refl)
letter-spelled Two = inl (one-spelled 32 refl)
letter-spelled TwoBig = inl (one-spelled 73 refl)
letter-spelled Three = inl (one-spelled 87 refl)
letter-spelled ThreeBig = inl (one-spelled 74 refl)
letter-spelled Four = inl (one-spelled 88 refl)
letter-spelled FourBig = inl (one-spelled 71 refl)

memory-spelled : (kind : Kind) (size : Size) (address : ℕ) → address < 4294967296
    → memory (operand_text (Cell kind size address)) (Cell kind size address)
memory-spelled kind size address small = then-spelled (prefix_of kind)
    (codes "0x" ++ (letter_of size ++ address_text address)) kind refl (prefix-spelled kind)
    (then-spelled (codes "0") (codes "x" ++ (letter_of size ++ address_text address)) tt refl
    (one-spelled 48 refl) (then-spelled (codes "x") (letter_of size ++ address_text address) tt refl
    (one-spelled 120 refl) (then-spelled (letter_of size) (address_text address) size refl
    (letter-spelled size) (then-spelled (address_text address) [] address
    (sym (append-nil (address_text address)))
    (hexadecimal-spelled (4 - length (digits 16 false address)) address small) none-spelled))))

-- the canonical text of an operand spells it
pub operand-spelled : (o : Operand) → Fits32 o → operand (operand_text o) o
operand-spelled (Cell kind size address) small = inr (inl (memory-spelled kind size address small))
operand-spelled (Const n) small = inr (inr (then-spelled [] (decimal n) tt refl (inr none-spelled)
    (inr (then-spelled (decimal n) [] n (sym (append-nil (decimal n)))
    (signed-spelled n small) none-spelled))))
operand-spelled Recall small =
    inl (then-spelled (codes "{recall}") [] tt refl (record { is = refl }) none-spelled)

-- ---- the operands that texts spell

-- the number of an operand that a text spells is one of 32 bits
pub operand-fits : (t : List ℕ) (o : Operand) → operand t o → Fits32 o
operand-fits t o (inl h) = subst Fits32 (sym h.of_next.is) tt
operand-fits t o (inr (inl h)) = subst Fits32 (sym h.of_next.of_next.of_next.of_next.of_next.is)
    (hexadecimal-fits h.of_next.of_next.of_next.of_next.front h.of_next.of_next.of_next.of_next.v
    h.of_next.of_next.of_next.of_next.of_first)
operand-fits t o (inr (inr h)) = constant-fits h.behind o h.of_next where
  constant-fits : (t : List ℕ) (o : Operand) → (hex_constant or decimal_constant) t o → Fits32 o
  constant-fits t o (inl h) = subst Fits32 (sym h.of_next.of_next.is)
      (hexadecimal-fits h.of_next.front h.of_next.v h.of_next.of_first)
  constant-fits t o (inr h) = subst Fits32 (sym h.of_next.is) (signed-fits h.front h.v h.of_first)
