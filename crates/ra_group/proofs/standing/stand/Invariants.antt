use Rattle.std.proofs.Common.{◌≡◌, ℕ, ◌<◌, [], get_or}
use Rattle.ra_group.specs.Equations.{frame_of, prev_of}
use Rattle.ra_group.specs.Standings.{no_standing, standing_at}
use Rattle.ra_group.proofs.standing.stand.Given as goal

-- the conditions so far stand as told, and what is carried is what the next one sees
abbrev pub invariant-loop-place : goal.invariant-loop-place
invariant-loop-place l = record {
  carries : l.before ≡ prev_of (frame_of l.conditions l.truths [] l.hits) l.place;
  done : (j : ℕ) → j < l.place → get_or l.standings j no_standing
      ≡ standing_at (frame_of l.conditions l.truths [] l.hits) j;
}
