use Rattle.std.proofs.Common.{ℕ, ◌<◌, ◌≤◌, slice_index}
use Rattle.ra_memref.proofs.watches.are_within.Given as goal

-- none of the places so far is above the greatest one
abbrev pub invariant-loop-cell : goal.invariant-loop-cell
invariant-loop-cell l = (k : ℕ) → k < l.cell → slice_index l.places k ≤ l.most
