-- The value of a tree at a frame, by looking back over whole images: docs/DEFINITIONS.md, "Values at a frame".
use Rattle.std.specs.Prelude.{ℕ, ◌+◌, ◌%◌, ◌^◌, ◌==◌, Bool, not, if◌then◌else◌, Option, None, Some, [], ◌∷◌, bit_and}
use Rattle.ra_operand.specs.declared.kind.Kind.{Kind}
use Rattle.ra_operand.specs.declared.kind.Kind.TheVariants.{Delta, Prior}
use Rattle.ra_operand.specs.Views.{width_of, mask_of, view_of, transformed}
use Rattle.ra_operand.specs.Operators.{computed}
use Rattle.ra_memory.specs.Image.{History, raw}
use Rattle.ra_indirect.specs.Trees.{Tree, constant, join, view, Cell, cell_of, Tracked}

-- the numbers that stand before the first frame: of each cell, and of each tracked mask
pub record Start : Type 0 where
  pub number : Cell → ℕ
  pub prior : Tracked → ℕ

-- the history without its last frame
abbrev pub before : History → History
before [] = []
before (image ∷ earlier) = earlier

-- the history up to the greatest frame that passes, if one does
abbrev pub latest : (History → Bool) → History → Option History
latest passes [] = None
latest passes (image ∷ earlier) =
    if passes (image ∷ earlier) then Some (image ∷ earlier) else latest passes earlier

-- the number at the last frame is another one than at the frame before
abbrev pub changes : (History → ℕ) → History → Bool
changes number history = not (number history == number (before history))

-- the number at the frame before the one at which it changed; the opening's where it never did
abbrev pub before_change : (History → ℕ) → ℕ → Option History → ℕ
before_change number opened None = opened
before_change number opened (Some changed) = number (before changed)

-- a prior: the number before its latest change
abbrev pub prior_of : (History → ℕ) → ℕ → History → ℕ
prior_of number opened history = before_change number opened (latest (changes number) history)

-- which number of its cell a view looks at: the one at the frame before, the prior, or the one at the frame
abbrev pub looked_at : Kind → (number masked : History → ℕ) → ℕ → History → ℕ
looked_at Delta number masked opened history = number (before history)
looked_at Prior number masked opened history = prior_of masked opened history
looked_at _ number masked opened history = number history

-- an address moved by a pointer
abbrev pub moved_by : ℕ → ℕ → ℕ
moved_by address pointer = (address + pointer) % 2 ^ 32

-- the number of a cell at the last frame, by its pointer's value there; before the first frame the opening's
abbrev pub number_of : ℕ → (pointer : History → ℕ) → (address width : ℕ) → History → ℕ
number_of opened pointer address width [] = opened
number_of opened pointer address width (image ∷ earlier) =
    raw width image (moved_by address (pointer (image ∷ earlier)))

-- a cell's number by the bits of a mask
abbrev pub masked_by : ℕ → (History → ℕ) → History → ℕ
masked_by mask number history = bit_and (number history) mask

-- the value of a tree at the last frame of a history
abbrev pub value_of : Start → Tree → History → ℕ
value_of start (constant n) history = n
value_of start (join op left right) history =
    computed op (value_of start left history) (value_of start right history)
value_of start (view kind size pointer address) history =
    let c = cell_of size pointer address in
    let number = number_of (start.number c) (value_of start pointer) address (width_of size) in
    transformed kind size
    (view_of size (looked_at kind number (masked_by (mask_of size) number)
    (start.prior (record { cell = c; mask = mask_of size })) history))

-- the number of a cell at the last frame of a history; the opening's before the first frame
abbrev pub cell_number : Start → Cell → History → ℕ
cell_number start c history = number_of (start.number c) (value_of start c.pointer) c.address c.width history

-- where a cell lies at the last frame of a history
abbrev pub cell_place : Start → Cell → History → ℕ
cell_place start c history = moved_by c.address (value_of start c.pointer history)

-- the prior of a tracked mask after a history
abbrev pub tracked_number : Start → Tracked → History → ℕ
tracked_number start t history = prior_of (masked_by t.mask (cell_number start t.cell)) (start.prior t) history

-- what stands after a history, taken as a new beginning
abbrev pub start_after : Start → History → Start
start_after start earlier = record {
  number = λ c. cell_number start c earlier;
  prior = λ t. tracked_number start t earlier;
}
