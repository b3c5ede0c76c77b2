use Rattle.std.proofs.Common.{◌≡◌, ◌++◌, false, get_or}
use Rattle.std.specs.Bool.{beq}
use Rattle.ra_condition.proofs.Passes.{chosen}
use Rattle.ra_chain.proofs.order.push_places.Given as goal

-- the marked places so far are added
abbrev pub invariant-loop-place : goal.invariant-loop-place
invariant-loop-place l = l.order.items
    ≡ l.initial.order.items ++ chosen (λ j. beq (get_or l.marks j false) l.marked) l.place
