use Rattle.std.proofs.Common.{◌≡◌, ℕ, ◌<◌, ◌&&◌, not, false}
use Rattle.ra_condition.specs.Contents.{flag_at}
use Rattle.ra_condition.specs.Flags.{combines, hands_on}
use Rattle.ra_account.proofs.stands.are_alone.Given as goal

-- none so far leaves anything
abbrev pub invariant-loop-place : goal.invariant-loop-place
invariant-loop-place l = (j : ℕ) → j < l.place
    → (combines (flag_at l.conditions j) && not (hands_on (flag_at l.conditions j))) ≡ false
