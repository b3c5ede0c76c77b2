-- The value of a tree lies in the range of the tree.
use Rattle.std.proofs.Common.{◌^◌, ◌<◌, arith}
use Rattle.ra_operand.specs.Views.{width_of, mask_of}
use Rattle.ra_memory.specs.Image.{History}
use Rattle.ra_indirect.specs.Trees.{Tree, constant, join, view, cell_of}
use Rattle.ra_memref.specs.Values.{Start, value_of, number_of, looked_at, masked_by}
use Rattle.ra_lint.specs.Ranges.{range_of}
use Rattle.ra_lint.specs.Sound.{IsIn, HasSmallConstants}
use Rattle.ra_lint.proofs.RangeLemmas.{view_in, view_small, operator_in, computed_small}

module _ (start : Start) (history : History) where
  -- the value of each tree is a number of 32 bits that lies in its range
  pub value_in : (tree : Tree) → HasSmallConstants tree → IsIn (value_of start tree history) (range_of tree)
      × (value_of start tree history < 2 ^ 32)
  value_in (constant n) h = (record { least = omega arith; greatest = omega arith }, h)
  value_in (join op left right) h =
      let l = value_in left h.0 in
      let r = value_in right h.1 in (
        operator_in (range_of left) (range_of right) (value_of start left history)
            (value_of start right history) l.0 r.0 l.1 r.1 op,
        computed_small (range_of left) (range_of right) (value_of start left history)
            (value_of start right history) l.0 r.0 l.1 r.1 op,
      )
  value_in (view kind size pointer address) h =
      let c = cell_of size pointer address in
      let number = number_of (start.number c) (value_of start pointer) address (width_of size) in
      let inside = view_in kind size
      (looked_at kind number (masked_by (mask_of size) number)
      (start.prior (record { cell = c; mask = mask_of size })) history) in
      (inside, omega (arith, inside.greatest, view_small kind size))
