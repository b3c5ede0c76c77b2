-- Sizes, kinds, operators, trees, cells and tracked masks are the same exactly where they are equal.
use Rattle.std.proofs.Common.{◌≡◌, ℕ, ◌==◌, ◌&&◌, true, [], ◌∷◌, refl, ap, sym, ◌∙◌, slice_index_or}
use Rattle.std.proofs.lemmas.Bool.{eqb-true, eq-eqb, and_parts, and_from, false≢true}
use Rattle.ra_operand.specs.declared.size.Size.{Size}
use Rattle.ra_operand.specs.declared.size.Size.TheVariants.{Bit0, Bit1, Bit2, Bit3, Bit4, Bit5, Bit6, Bit7, Low, High}
use Rattle.ra_operand.specs.declared.size.Size.TheVariants.{Byte, Two, Three, Four, Count, TwoBig, ThreeBig, FourBig}
use Rattle.ra_operand.specs.declared.kind.Kind.{Kind}
use Rattle.ra_operand.specs.declared.kind.Kind.TheVariants.{Mem, Delta, Prior, Bcd, Inverted}
use Rattle.ra_operand.specs.declared.op.Op.{Op}
use Rattle.ra_operand.specs.declared.op.Op.TheVariants.{Bare, Eq, Ne, Lt, Le, Gt, Ge, Mul, Div, And, Xor, Rem, Add, Sub}
use Rattle.ra_operand.specs.Same.{number_of_size, number_of_kind, number_of_op, same_size, same_kind, same_op}
use Rattle.ra_indirect.specs.Trees.{Tree, constant, join, view, same_tree, Cell, same_cell, Tracked, same_tracked}

-- a size, a kind, an operator by its number
sized : ℕ → Size
sized n =
    slice_index_or (Bit0 ∷ Bit1 ∷ Bit2 ∷ Bit3 ∷ Bit4 ∷ Bit5 ∷ Bit6 ∷ Bit7 ∷ Low ∷ High ∷ Byte ∷ Two
    ∷ Three ∷ Four ∷ Count ∷ TwoBig ∷ ThreeBig ∷ FourBig ∷ []) n Bit0

kinded : ℕ → Kind
kinded n = slice_index_or (Mem ∷ Delta ∷ Prior ∷ Bcd ∷ Inverted ∷ []) n Mem

operated : ℕ → Op
operated n = slice_index_or (Bare ∷ Eq ∷ Ne ∷ Lt ∷ Le ∷ Gt ∷ Ge ∷ Mul ∷ Div ∷ And ∷ Xor ∷ Rem ∷ Add ∷ Sub ∷ []) n Bare

sized_back : (s : Size) → sized (number_of_size s) ≡ s
unfolding sized
sized_back Bit0 = refl
sized_back _ = refl

kinded_back : (k : Kind) → kinded (number_of_kind k) ≡ k
unfolding kinded
kinded_back Mem = refl
kinded_back _ = refl

operated_back : (o : Op) → operated (number_of_op o) ≡ o
unfolding operated
operated_back Bare = refl
operated_back _ = refl

pub size_is : (a b : Size) → same_size a b ≡ true → a ≡ b
size_is a b same =
    sym (sized_back a) ∙ ap sized (eqb-true (number_of_size a) (number_of_size b) same) ∙ sized_back b

pub kind_is : (a b : Kind) → same_kind a b ≡ true → a ≡ b
kind_is a b same =
    sym (kinded_back a) ∙ ap kinded (eqb-true (number_of_kind a) (number_of_kind b) same) ∙ kinded_back b

pub op_is : (a b : Op) → same_op a b ≡ true → a ≡ b
op_is a b same =
    sym (operated_back a) ∙ ap operated (eqb-true (number_of_op a) (number_of_op b) same) ∙ operated_back b

-- trees that are the same are equal
pub tree_is : (s t : Tree) → same_tree s t ≡ true → s ≡ t
tree_is (constant m) (constant n) same = ap constant (eqb-true m n same)
tree_is (constant m) (join p u v) same = absurd (false≢true same)
tree_is (constant m) (view l t q b) same = absurd (false≢true same)
tree_is (join o x y) (constant n) same = absurd (false≢true same)
tree_is (join o x y) (join p u v) same =
    let first = and_parts (same_op o p) (same_tree x u && same_tree y v) same in
    let rest = and_parts (same_tree x u) (same_tree y v) first.1 in
    let ops = op_is o p first.0 in
    let lefts = tree_is x u rest.0 in
    let rights = tree_is y v rest.1 in
    (λ i. join (ops i) (lefts i) (rights i))
tree_is (join o x y) (view l t q b) same = absurd (false≢true same)
tree_is (view k s p a) (constant n) same = absurd (false≢true same)
tree_is (view k s p a) (join o u v) same = absurd (false≢true same)
tree_is (view k s p a) (view l t q b) same =
    let first = and_parts (same_kind k l) (same_size s t && (a == b && same_tree p q)) same in
    let second = and_parts (same_size s t) (a == b && same_tree p q) first.1 in
    let rest = and_parts (a == b) (same_tree p q) second.1 in
    let kinds = kind_is k l first.0 in
    let sizes = size_is s t second.0 in
    let addresses = eqb-true a b rest.0 in
    let pointers = tree_is p q rest.1 in
    (λ i. view (kinds i) (sizes i) (pointers i) (addresses i))

-- a tree, a cell, a tracked mask is the same as itself
pub tree_itself : (t : Tree) → same_tree t t ≡ true
tree_itself (constant n) = eq-eqb n n refl
tree_itself (join o x y) =
    and_from (same_op o o) (same_tree x x && same_tree y y) (eq-eqb (number_of_op o) (number_of_op o) refl)
    (and_from (same_tree x x) (same_tree y y) (tree_itself x) (tree_itself y))
tree_itself (view k s p a) =
    and_from (same_kind k k) (same_size s s && (a == a && same_tree p p))
    (eq-eqb (number_of_kind k) (number_of_kind k) refl)
    (and_from (same_size s s) (a == a && same_tree p p) (eq-eqb (number_of_size s) (number_of_size s) refl)
    (and_from (a == a) (same_tree p p) (eq-eqb a a refl) (tree_itself p)))

pub cell_itself : (c : Cell) → same_cell c c ≡ true
cell_itself c =
    and_from (c.address == c.address) (c.width == c.width && same_tree c.pointer c.pointer)
    (eq-eqb c.address c.address refl)
    (and_from (c.width == c.width) (same_tree c.pointer c.pointer) (eq-eqb c.width c.width refl)
    (tree_itself c.pointer))

pub tracked_itself : (t : Tracked) → same_tracked t t ≡ true
tracked_itself t = and_from (t.mask == t.mask) (same_cell t.cell t.cell) (eq-eqb t.mask t.mask refl)
    (cell_itself t.cell)

pub cell_is : (c d : Cell) → same_cell c d ≡ true → c ≡ d
cell_is c d same =
    let first = and_parts (c.address == d.address) (c.width == d.width && same_tree c.pointer d.pointer) same in
    let rest = and_parts (c.width == d.width) (same_tree c.pointer d.pointer) first.1 in
    let addresses = eqb-true c.address d.address first.0 in
    let widths = eqb-true c.width d.width rest.0 in
    let pointers = tree_is c.pointer d.pointer rest.1 in
    (λ i. record { pointer = pointers i; address = addresses i; width = widths i })

pub tracked_is : (s t : Tracked) → same_tracked s t ≡ true → s ≡ t
tracked_is s t same =
    let parts = and_parts (s.mask == t.mask) (same_cell s.cell t.cell) same in
    let masks = eqb-true s.mask t.mask parts.0 in
    let cells = cell_is s.cell t.cell parts.1 in
    (λ i. record { cell = cells i; mask = masks i })
