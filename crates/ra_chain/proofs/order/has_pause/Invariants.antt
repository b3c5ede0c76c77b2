use Rattle.std.proofs.Common.{◌≡◌, ℕ, ◌<◌, false, get_or}
use Rattle.ra_condition.specs.declared.condition.Condition.{Condition}
use Rattle.ra_condition.specs.Flags.{is_pause}
use Rattle.ra_chain.proofs.order.has_pause.Given as goal

-- no condition so far is a PauseIf
abbrev pub invariant-loop-condition : goal.invariant-loop-condition
invariant-loop-condition l = (k : ℕ) (d : Condition) → k < l.condition-index
    → is_pause (get_or l.conditions k d).flag ≡ false
