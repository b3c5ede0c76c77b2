-- Operators, views and trees give numbers of 32 bits.
use Rattle.std.proofs.Common.{ℕ, zero, suc, ◌+◌, ◌-◌, ◌*◌, ◌/◌, ◌%◌, ◌^◌, ◌<◌, ◌≤◌, ◌==◌, Bool, true, false}
use Rattle.std.proofs.Common.{if◌then◌else◌, Some, [], ◌∷◌, bit_and, arith, lit<, lit≤, pow-suc, lt_of_le_of_lt}
use Rattle.std.proofs.Common.{lt_of_lt_of_le, div-le_self}
use Rattle.std.proofs.Math.Nat.{mod-le, pow-le-pow_right}
use Rattle.std.proofs.lemmas.Nat.{and_le_l, xor_of_32, ones_le_self}
use Rattle.ra_operand.specs.declared.size.Size.{Size}
use Rattle.ra_operand.specs.declared.size.Size.TheVariants.{Bit1, Bit2, Bit3, Bit4, Bit5, Bit6, Bit7, Low, High, Byte}
use Rattle.ra_operand.specs.declared.size.Size.TheVariants.{Two, Three, Four, Count, TwoBig, ThreeBig, FourBig}
use Rattle.ra_operand.specs.declared.kind.Kind.{Kind}
use Rattle.ra_operand.specs.declared.kind.Kind.TheVariants.{Delta, Prior, Bcd, Inverted}
use Rattle.ra_operand.specs.declared.op.Op.{Op}
use Rattle.ra_operand.specs.declared.op.Op.TheVariants.{Mul, Div, And, Xor, Rem, Add, Sub}
use Rattle.ra_operand.specs.Views.{width_of, mask_of, bits_of, shown_of, view_of, as_decimal, transformed}
use Rattle.ra_operand.specs.Operators.{computed}
use Rattle.ra_memory.specs.Image.{History, AreImages}
use Rattle.ra_memory.proofs.Raw.{raw_below}
use Rattle.ra_indirect.specs.Trees.{Tree, constant, join, view, Cell, cell_of, Tracked}
use Rattle.ra_memref.specs.Values.{Start, before, latest, changes, before_change, prior_of, looked_at, moved_by}
use Rattle.ra_memref.specs.Values.{number_of, masked_by, value_of, cell_number, tracked_number}

-- a number of 32 bits
abbrev pub IsWord : ℕ → Type 0
IsWord n = n < 2 ^ 32

pub if_word : (b : Bool) (m n : ℕ) → IsWord m → IsWord n → IsWord (if b then m else n)
if_word true m n first second = first
if_word false m n first second = second

computed_word : (op : Op) (x y : ℕ) → IsWord x → IsWord y → IsWord (computed op x y)
computed_word Mul x y left right = omega arith
computed_word Div x y left right =
    if_word (y == 0) 0 (x / y) (lit< tt) (lt_of_le_of_lt (div-le_self x y) left)
computed_word And x y left right = lt_of_le_of_lt (and_le_l x y) left
computed_word Xor x y left right = xor_of_32 x y left right
computed_word Rem x y left right =
    if_word (y == 0) 0 (x % y) (lit< tt) (lt_of_le_of_lt (mod-le x y) left)
computed_word Add x y left right = omega arith
computed_word Sub x y left right = omega arith
computed_word _ x y left right = lit< tt

shown_word : (size : Size) (bits : ℕ) → IsWord bits → IsWord (shown_of size bits)
shown_word Bit1 bits word = omega arith
shown_word Bit2 bits word = omega arith
shown_word Bit3 bits word = omega arith
shown_word Bit4 bits word = omega arith
shown_word Bit5 bits word = omega arith
shown_word Bit6 bits word = omega arith
shown_word Bit7 bits word = omega arith
shown_word High bits word = omega arith
shown_word Count bits word = lt_of_le_of_lt (ones_le_self bits) word
shown_word TwoBig bits word = omega arith
shown_word ThreeBig bits word = omega arith
shown_word FourBig bits word = omega arith
shown_word _ bits word = word

decimal_below : (digits x : ℕ) → 9 * as_decimal digits x + 15 ≤ 15 * 10 ^ digits
decimal_below zero x = lit≤ tt
decimal_below (suc digits) x =
    let rest = decimal_below digits (x / 16) in
    rw (pow-suc 10 digits) (omega arith)

ones_word : (size : Size) → IsWord (2 ^ bits_of size - 1)
ones_word Low = lit< tt
ones_word High = lit< tt
ones_word Byte = lit< tt
ones_word Count = lit< tt
ones_word Two = lit< tt
ones_word TwoBig = lit< tt
ones_word Three = lit< tt
ones_word ThreeBig = lit< tt
ones_word Four = lit< tt
ones_word FourBig = lit< tt
ones_word _ = lit< tt

transformed_word : (kind : Kind) (size : Size) (x : ℕ) → IsWord x → IsWord (transformed kind size x)
transformed_word Bcd size x word =
    let below : 9 * as_decimal 8 x + 15 ≤ 15 * 10 ^ 8 = decimal_below 8 x in
    omega arith
transformed_word Inverted size x word = xor_of_32 x (2 ^ bits_of size - 1) word (ones_word size)
transformed_word _ size x word = word

pub four_at_most : (size : Size) → width_of size ≤ 4
four_at_most Two = lit≤ tt
four_at_most TwoBig = lit≤ tt
four_at_most Three = lit≤ tt
four_at_most ThreeBig = lit≤ tt
four_at_most Four = lit≤ tt
four_at_most FourBig = lit≤ tt
four_at_most _ = lit≤ tt

number_word : (opened : ℕ) (pointer : History → ℕ) (address width : ℕ) → IsWord opened → width ≤ 4
    → (history : History) → AreImages history
    → IsWord (number_of opened pointer address width history)
number_word opened pointer address width word narrow [] images = word
number_word opened pointer address width word narrow (image ∷ earlier) images =
    let below = raw_below width image images.0 (moved_by address (pointer (image ∷ earlier))) in
    let most : 256 ^ width ≤ 256 ^ 4 = pow-le-pow_right (lit< tt) narrow in
    lt_of_lt_of_le below most

prior_word : (number : History → ℕ) (opened : ℕ)
    → ((history : History) → AreImages history → IsWord (number history)) → IsWord opened
    → (history : History) → AreImages history → IsWord (prior_of number opened history)
prior_word number opened words word [] images = word
prior_word number opened words word (image ∷ earlier) images =
    elim (changes number (image ∷ earlier)) as (λ b. IsWord (before_change number opened
    (if b then Some (image ∷ earlier) else latest (changes number) earlier))) [
      | true ↦ words earlier images.1
      | false ↦ prior_word number opened words word earlier images.1
    ]

-- what stands before the first frame is of 32 bits
pub record AreStartWords (start : Start) : Type 0 where
  pub numbers : (c : Cell) → IsWord (start.number c)
  pub priors : (t : Tracked) → IsWord (start.prior t)

-- the constants of a tree outside of its views are of 32 bits
abbrev pub HasWords : Tree → Type 0
HasWords (constant n) = IsWord n
HasWords (join op left right) = HasWords left × HasWords right
HasWords (view kind size pointer address) = Unit {0}

before_images : (history : History) → AreImages history → AreImages (before history)
before_images [] images = tt
before_images (image ∷ earlier) images = images.1

module _ (start : Start) (opened : AreStartWords start) where
  pub cell_word : (c : Cell) → c.width ≤ 4 → (history : History) → AreImages history
      → IsWord (cell_number start c history)
  cell_word c narrow history images =
      number_word (start.number c) (value_of start c.pointer) c.address c.width (opened.numbers c) narrow history images

  masked_word : (mask : ℕ) (c : Cell) → c.width ≤ 4 → (history : History) → AreImages history
      → IsWord (masked_by mask (cell_number start c) history)
  masked_word mask c narrow history images =
      lt_of_le_of_lt (and_le_l (cell_number start c history) mask) (cell_word c narrow history images)

  pub tracked_word : (t : Tracked) → t.cell.width ≤ 4 → (history : History) → AreImages history
      → IsWord (tracked_number start t history)
  tracked_word t narrow history images =
      prior_word (masked_by t.mask (cell_number start t.cell)) (start.prior t)
      (masked_word t.mask t.cell narrow) (opened.priors t) history images

  looked_word : (kind : Kind) (mask : ℕ) (c : Cell) → c.width ≤ 4 → (history : History)
      → AreImages history → IsWord (looked_at kind (cell_number start c) (masked_by mask
      (cell_number start c)) (start.prior (record { cell = c; mask = mask })) history)
  looked_word Delta mask c narrow history images =
      cell_word c narrow (before history) (before_images history images)
  looked_word Prior mask c narrow history images =
      tracked_word (record { cell = c; mask = mask }) narrow history images
  looked_word _ mask c narrow history images = cell_word c narrow history images

  pub value_word : (tree : Tree) → HasWords tree → (history : History) → AreImages history
      → IsWord (value_of start tree history)
  value_word (constant n) words history images = words
  value_word (join op left right) words history images =
      computed_word op (value_of start left history) (value_of start right history)
      (value_word left words.0 history images) (value_word right words.1 history images)
  value_word (view kind size pointer address) words history images =
      let c = cell_of size pointer address in
      let mask = mask_of size in
      let looked = looked_at kind (cell_number start c) (masked_by mask (cell_number start c))
      (start.prior (record { cell = c; mask = mask })) history in
      let word : IsWord looked = looked_word kind mask c (four_at_most size) history images in
      transformed_word kind size (view_of size looked)
      (shown_word size (bit_and looked mask) (lt_of_le_of_lt (and_le_l looked mask) word))
