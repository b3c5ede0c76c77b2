use Rattle.std.proofs.Common.{◌≡◌, map, take}
use Rattle.ra_items.specs.Shapes.{run_shape}
use Rattle.ra_items.proofs.shapes.item_shapes.Given as goal

abbrev pub invariant-loop-run : goal.invariant-loop-run
invariant-loop-run l = l.shapes.items ≡ map run_shape (take l.run-index l.runs)
