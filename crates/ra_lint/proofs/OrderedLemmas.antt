-- Ranges that hold a number, and views of all ones.
use Rattle.std.proofs.Common.{◌≡◌, ◌-◌, ◌^◌, ◌<◌, bit_xor, refl, sym, ap, ap₂, ◌∙◌, arith}
use Rattle.ra_operand.specs.declared.size.Size.{Size}
use Rattle.ra_operand.specs.declared.size.Size.TheVariants.{Bit0, Bit1, Bit2, Bit3, Bit4, Bit5, Bit6, Bit7, Low, High}
use Rattle.ra_operand.specs.declared.size.Size.TheVariants.{Byte, Two, Three, Four, Count, TwoBig, ThreeBig, FourBig}
use Rattle.ra_operand.specs.declared.kind.Kind.{Kind}
use Rattle.ra_operand.specs.declared.kind.Kind.TheVariants.{Mem, Delta, Prior, Bcd, Inverted}
use Rattle.ra_operand.specs.declared.op.Op.{Op}
use Rattle.ra_operand.specs.Views.{view_of, bits_of, transformed}
use Rattle.ra_lint.specs.declared.range.Range.{Range}
use Rattle.ra_lint.specs.Ranges.{range, most_of, view_range, joined_range}
use Rattle.ra_lint.specs.Ordered.{IsOrdered}
use Rattle.ra_lint.specs.Sound.{IsIn}
use Rattle.ra_lint.proofs.RangeLemmas.{joined_in}

-- an ordered range holds its least number, so the range of an operator over two holds what is computed from those
pub joined_ordered : (op : Op) (r s : Range) → IsOrdered r → IsOrdered s → r.least < 2 ^ 32 → s.least < 2 ^ 32
    → IsOrdered (joined_range op r s)
joined_ordered op r s left right small small' =
    let first : IsIn r.least r = record { least = omega arith; greatest = left } in
    let second : IsIn s.least s = record { least = omega arith; greatest = right } in
    let inside = joined_in r s r.least s.least first second small small' op in
    omega (arith, inside.least, inside.greatest)

-- a size shows most where all bits are ones
pub most_shown : (size : Size) → view_of size 4294967295 ≡ most_of size
unfolding lib.Count.ones
most_shown Bit0 = refl
most_shown Bit1 = refl
most_shown Bit2 = refl
most_shown Bit3 = refl
most_shown Bit4 = refl
most_shown Bit5 = refl
most_shown Bit6 = refl
most_shown Bit7 = refl
most_shown Low = refl
most_shown High = refl
most_shown Byte = refl
most_shown Two = refl
most_shown Three = refl
most_shown Four = refl
most_shown Count = refl
most_shown TwoBig = refl
most_shown ThreeBig = refl
most_shown FourBig = refl

-- an inverted view is least where most is shown
pub least_inverted : (size : Size) → bit_xor (most_of size) (2 ^ bits_of size - 1) ≡ 2 ^ bits_of size - 1 - most_of size
least_inverted Bit0 = refl
least_inverted Bit1 = refl
least_inverted Bit2 = refl
least_inverted Bit3 = refl
least_inverted Bit4 = refl
least_inverted Bit5 = refl
least_inverted Bit6 = refl
least_inverted Bit7 = refl
least_inverted Low = refl
least_inverted High = refl
least_inverted Byte = refl
least_inverted Two = refl
least_inverted Three = refl
least_inverted Four = refl
least_inverted Count = refl
least_inverted TwoBig = refl
least_inverted ThreeBig = refl
least_inverted FourBig = refl

-- and greatest where nothing is
pub greatest_inverted : (size : Size) → bit_xor 0 (2 ^ bits_of size - 1) ≡ 2 ^ bits_of size - 1
greatest_inverted Bit0 = refl
greatest_inverted Bit1 = refl
greatest_inverted Bit2 = refl
greatest_inverted Bit3 = refl
greatest_inverted Bit4 = refl
greatest_inverted Bit5 = refl
greatest_inverted Bit6 = refl
greatest_inverted Bit7 = refl
greatest_inverted Low = refl
greatest_inverted High = refl
greatest_inverted Byte = refl
greatest_inverted Two = refl
greatest_inverted Three = refl
greatest_inverted Four = refl
greatest_inverted Count = refl
greatest_inverted TwoBig = refl
greatest_inverted ThreeBig = refl
greatest_inverted FourBig = refl

-- a view that is not inverted has 0 to what its kind makes of the most that is shown
pub upright_range : (kind : Kind) (size : Size) → (kind ≡ Inverted → ⊥)
    → range 0 (transformed kind size (most_of size)) ≡ view_range kind size
upright_range Mem size other = refl
upright_range Delta size other = refl
upright_range Prior size other = refl
upright_range Bcd size other = refl
upright_range Inverted size other = absurd (other refl)

-- an inverted view of the most that is shown to one of nothing
pub inverted_range : (kind : Kind) (size : Size) → kind ≡ Inverted → range (transformed kind size (most_of size))
    (transformed kind size 0) ≡ view_range kind size
inverted_range kind size is =
    (λ i. range (transformed (is i) size (most_of size)) (transformed (is i) size 0))
    ∙ ap₂ range (least_inverted size) (greatest_inverted size) ∙ ap (λ k. view_range k size) (sym is)
