use Rattle.std.proofs.Common.{◌≡◌, [], ◌&&◌}
use Rattle.std.specs.List.{list_any, range_with_len}
use Rattle.ra_condition.specs.Contents.{flag_at}
use Rattle.ra_condition.specs.Flags.{is_pause}
use Rattle.ra_group.specs.Equations.{frame_of, settled_at}
use Rattle.ra_account.proofs.stands.some_pause.Given as goal

-- some PauseIf so far is valid
abbrev pub invariant-loop-place : goal.invariant-loop-place
invariant-loop-place l = l.paused ≡ list_any (λ j. is_pause (flag_at l.conditions j)
    && (settled_at (frame_of l.conditions l.truths [] l.hits) j).valid) (range_with_len 0 l.place)
