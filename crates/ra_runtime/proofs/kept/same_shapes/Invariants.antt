use Rattle.std.proofs.Common.{◌≡◌, take}
use Rattle.ra_runtime.proofs.kept.same_shapes.Given as goal

-- the shapes so far are the same
abbrev pub invariant-loop-place : goal.invariant-loop-place
invariant-loop-place l = record { same : take l.place l.items ≡ take l.place l.others }
