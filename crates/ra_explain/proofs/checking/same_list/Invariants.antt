use Rattle.std.proofs.Common.{◌≡◌, take}
use Rattle.ra_explain.proofs.checking.same_list.Given as goal

-- the lists are the same so far
abbrev pub invariant-loop-place : goal.invariant-loop-place
invariant-loop-place l = take l.place l.list ≡ take l.place l.other
