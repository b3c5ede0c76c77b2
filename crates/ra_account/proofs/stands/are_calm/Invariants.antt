use Rattle.std.proofs.Common.{◌≡◌, ℕ, ◌<◌, ◌||◌, false}
use Rattle.ra_condition.specs.Contents.{flag_at}
use Rattle.ra_condition.specs.Flags.{is_address, is_pause, is_reset}
use Rattle.ra_account.proofs.stands.are_calm.Given as goal

-- none so far does any of these
abbrev pub invariant-loop-place : goal.invariant-loop-place
invariant-loop-place l = (j : ℕ) → j < l.place
    → (is_pause (flag_at l.conditions j)
    || (is_reset (flag_at l.conditions j) || is_address (flag_at l.conditions j))) ≡ false
