use Rattle.std.proofs.Common.{◌≡◌, ℕ, Bool, ◌&&◌, false}
use Rattle.std.specs.List.{list_any, range_with_len}
use Rattle.ra_condition.specs.Contents.{flag_at}
use Rattle.ra_condition.specs.Flags.{is_pause}
use Rattle.ra_account.proofs.stands.may_pause.Given as goal

-- none so far is a PauseIf
abbrev pub invariant-loop-place : goal.invariant-loop-place
invariant-loop-place l = (valid : ℕ → Bool) → list_any
    (λ j. is_pause (flag_at l.conditions j) && valid j) (range_with_len 0 l.place) ≡ false
