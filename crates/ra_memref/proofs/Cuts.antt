-- A history may be cut at any frame: what stands there is a new beginning.
use Rattle.std.proofs.Common.{◌≡◌, ℕ, Bool, true, false, not, ◌==◌, if◌then◌else◌, List, [], ◌∷◌, ◌++◌, Option, Some}
use Rattle.std.proofs.Common.{refl, ap, ◌∙◌, bit_and}
use Rattle.ra_operand.specs.declared.kind.Kind.{Kind}
use Rattle.ra_operand.specs.declared.kind.Kind.TheVariants.{Mem, Delta, Prior, Bcd, Inverted}
use Rattle.ra_operand.specs.Views.{width_of, mask_of, view_of, transformed}
use Rattle.ra_operand.specs.Operators.{computed}
use Rattle.ra_memory.specs.Image.{History, raw}
use Rattle.ra_indirect.specs.Trees.{Tree, constant, join, view, Cell, cell_of, Tracked}
use Rattle.ra_memref.specs.Values.{Start, before, latest, changes, before_change, prior_of, looked_at, moved_by}
use Rattle.ra_memref.specs.Values.{number_of, masked_by, value_of, cell_number, tracked_number, start_after}

-- a function of a history after the cut is this one of the frames since then
abbrev Follows : (History → ℕ) → (History → ℕ) → History → Type 0
Follows f f' earlier = (later : History) → f (later ++ earlier) ≡ f' later

-- the latest change is the same, whatever the test at the last frame says
change_cut : (f f' : History → ℕ) (opened opened' : ℕ) (changed changed' : History) (rest
    rest' : Option History) → f (before changed) ≡ f' (before changed') → before_change f opened
    rest ≡ before_change f' opened' rest' → (b : Bool) → before_change f opened (if b then Some
    changed else rest) ≡ before_change f' opened' (if b then Some changed' else rest')
change_cut f f' opened opened' changed changed' rest rest' now earlier true = now
change_cut f f' opened opened' changed changed' rest rest' now earlier false = earlier

pub prior_cut : (f f' : History → ℕ) (opened : ℕ) (earlier : History) → Follows f f' earlier
    → (later : History) → prior_of f opened (later ++ earlier)
    ≡ prior_of f' (prior_of f opened earlier) later
prior_cut f f' opened earlier same [] = refl
prior_cut f f' opened earlier same (image ∷ later) =
    change_cut f f' opened (prior_of f opened earlier) (image ∷ (later ++ earlier)) (image ∷ later)
    (latest (changes f) (later ++ earlier)) (latest (changes f') later) (same later)
    (prior_cut f f' opened earlier same later) (changes f (image ∷ (later ++ earlier)))
    ∙ ap (λ b. before_change f' (prior_of f opened earlier) (if b then Some (image ∷ later)
    else latest (changes f') later)) (changes_cut image later)
  where
    changes_cut : (image : List ℕ) (later : History) → changes f (image ∷ (later ++ earlier))
        ≡ changes f' (image ∷ later)
    changes_cut image later = ap (λ n. not (n == f (later ++ earlier))) (same (image ∷ later))
        ∙ ap (λ n. not (f' (image ∷ later) == n)) (same later)

-- a number of a cell, where its pointers follow at each frame
number_cut : (opened address width : ℕ) (p p' : History → ℕ) (earlier : History)
    → ((image : List ℕ) (later : History) → p (image ∷ (later ++ earlier)) ≡ p' (image ∷ later))
    → Follows (number_of opened p address width)
    (number_of (number_of opened p address width earlier) p' address width) earlier
number_cut opened address width p p' earlier same [] = refl
number_cut opened address width p p' earlier same (image ∷ later) =
    ap (λ n. raw width image (moved_by address n)) (same image later)

looked_cut : (kind : Kind) (n n' m m' : History → ℕ) (opened : ℕ) (earlier : History) → Follows n n'
    earlier → Follows m m' earlier → (image : List ℕ) (later : History) → looked_at kind n m opened
    (image ∷ (later ++ earlier)) ≡ looked_at kind n' m' (prior_of m opened earlier) (image ∷ later)
looked_cut Delta n n' m m' opened earlier same masked image later = same later
looked_cut Prior n n' m m' opened earlier same masked image later = prior_cut m m' opened earlier masked (image ∷ later)
looked_cut Mem n n' m m' opened earlier same masked image later = same (image ∷ later)
looked_cut Bcd n n' m m' opened earlier same masked image later = same (image ∷ later)
looked_cut Inverted n n' m m' opened earlier same masked image later = same (image ∷ later)

-- the value of a tree at a frame after the cut
pub value_cut : (start : Start) (earlier : History) (tree : Tree) (image : List ℕ) (later : History)
    → value_of start tree (image ∷ (later ++ earlier))
    ≡ value_of (start_after start earlier) tree (image ∷ later)
value_cut start earlier (constant n) image later = refl
value_cut start earlier (join op left right) image later =
    ap (λ n. computed op n (value_of start right (image ∷ (later ++ earlier))))
    (value_cut start earlier left image later)
    ∙ ap (λ n. computed op (value_of (start_after start earlier) left (image ∷ later)) n)
    (value_cut start earlier right image later)
value_cut start earlier (view kind size pointer address) image later =
    let c = cell_of size pointer address in
    let follows = number_cut (start.number c) address (width_of size) (value_of start pointer)
    (value_of (start_after start earlier) pointer) earlier (value_cut start earlier pointer) in
    ap (λ n. transformed kind size (view_of size n))
    (looked_cut kind (cell_number start c) (cell_number (start_after start earlier) c)
    (masked_by (mask_of size) (cell_number start c)) (masked_by (mask_of size) (cell_number
    (start_after start earlier) c)) (start.prior (record { cell = c; mask = mask_of size })) earlier
    follows (λ l. ap (λ n. bit_and n (mask_of size)) (follows l)) image later)

-- the numbers of cells and of tracked masks after the cut
pub cell_cut : (start : Start) (earlier : History) (c : Cell) (later : History)
    → cell_number start c (later ++ earlier) ≡ cell_number (start_after start earlier) c later
cell_cut start earlier c later =
    number_cut (start.number c) c.address c.width (value_of start c.pointer) (value_of
    (start_after start earlier) c.pointer) earlier (value_cut start earlier c.pointer) later

pub tracked_cut : (start : Start) (earlier : History) (t : Tracked) (later : History)
    → tracked_number start t (later ++ earlier) ≡ tracked_number (start_after start earlier) t later
tracked_cut start earlier t later =
    prior_cut (masked_by t.mask (cell_number start t.cell))
    (masked_by t.mask (cell_number (start_after start earlier) t.cell)) (start.prior t) earlier
    (λ l. ap (λ n. bit_and n t.mask) (cell_cut start earlier t.cell l)) later
