use Rattle.std.proofs.Common.{◌≡◌, ℕ, ◌+◌, ◌<◌, ◌≤◌, ◌∷◌, List, length, true, false, get_or}
use Rattle.ra_account.specs.declared.facts.Facts.{Facts}
use Rattle.ra_account.specs.declared.running.Running.{Running}
use Rattle.ra_account.specs.Facts.{facts_at, wanted_at}
use Rattle.ra_account.specs.Groups.{no_sight, row_in, sight_at}
use Rattle.ra_account.specs.Noting.{FirstIs, frame_in}
use Rattle.ra_account.specs.Running.{AreRunning, IsRunning, RunsAt}
use Rattle.ra_account.proofs.noting.note_others.Given as goal

-- the frame is noted in the accounts so far, and the others are as they were
abbrev pub invariant-loop-place : goal.invariant-loop-place
invariant-loop-place l = record {
  noted : (earlier : ℕ → List Facts)
      → ((j : ℕ) → j < length l.frame.conditions.now → length (earlier j) ≡ l.frame.at)
      → (l.frame.steady ≡ true → (j : ℕ) → j < length l.frame.conditions.now
      → get_or l.fn.seen j no_sight ≡ sight_at (row_in l.frame.row) j
      → FirstIs (facts_at (frame_in l.frame) l.frame.row.rights.now l.frame.size j) (earlier j))
      → AreRunning earlier l.fn.accounts → (j : ℕ) → j < l.place → (d : Running)
      → IsRunning (facts_at (frame_in l.frame) l.frame.row.rights.now l.frame.size j ∷ earlier j)
      (get_or l.accounts j d);
  stand : (j : ℕ) → j < l.place → (d : Running) → RunsAt (l.frame.at + 1) (get_or l.accounts j d);
  wanted : (j : ℕ) → j < l.place → get_or l.wants j false ≡ wanted_at (frame_in l.frame) j;
  seen_too : (j : ℕ) → j < l.place → get_or l.seen j no_sight ≡ sight_at (row_in l.frame.row) j;
  rest : (j : ℕ) → l.place ≤ j → (d : Running) → get_or l.accounts j d ≡ get_or l.fn.accounts j d;
  rest_wants : (j : ℕ) → l.place ≤ j → get_or l.wants j false ≡ get_or l.fn.wants j false;
  rest_seen : (j : ℕ) → l.place ≤ j → get_or l.seen j no_sight ≡ get_or l.fn.seen j no_sight;
}
