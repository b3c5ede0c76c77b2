use Rattle.std.proofs.Common.{◌≡◌, ℕ, ◌<◌, false}
use Rattle.ra_condition.specs.Contents.{flag_at}
use Rattle.ra_condition.specs.Flags.{hands_on}
use Rattle.ra_counts.proofs.plain.hand_nothing_on.Given as goal

-- none so far hands a value on
abbrev pub invariant-loop-condition : goal.invariant-loop-condition
invariant-loop-condition l = (j : ℕ) → j < l.condition-index → hands_on (flag_at l.conditions j) ≡ false
