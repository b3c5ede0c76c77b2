use Rattle.std.proofs.Common.{◌≡◌, ℕ, ◌+◌, ◌<◌, ◌≤◌, ◌∷◌, ◌&&◌, List, length, false, get_or}
use Rattle.std.specs.List.{list_any, range_with_len}
use Rattle.ra_condition.specs.Contents.{flag_at}
use Rattle.ra_condition.specs.Flags.{is_reset}
use Rattle.ra_group.specs.Equations.{settled_at}
use Rattle.ra_account.specs.declared.facts.Facts.{Facts}
use Rattle.ra_account.specs.declared.running.Running.{Running}
use Rattle.ra_account.specs.Running.{AreRunning, IsRunning, RunsAt}
use Rattle.ra_account.specs.Facts.{facts_at, wanted_at}
use Rattle.ra_account.specs.Noting.{frame_in}
use Rattle.ra_account.proofs.group.note_group.Given as goal

-- the frame is noted in the accounts so far, and the others are as they were
abbrev pub invariant-loop-place : goal.invariant-loop-place
invariant-loop-place l = record {
  resets_too : l.resets ≡ list_any (λ j. is_reset (flag_at l.frame.conditions.now j)
      && (settled_at (frame_in l.frame) j).valid) (range_with_len 0 l.place);
  wanted : (j : ℕ) → j < l.place → get_or l.wants j false ≡ wanted_at (frame_in l.frame) j;
  stand : (j : ℕ) → j < l.place → (d : Running) → RunsAt (l.frame.at + 1) (get_or l.accounts j d);
  noted : (earlier : ℕ → List Facts)
      → ((j : ℕ) → j < length l.frame.conditions.now → length (earlier j) ≡ l.frame.at)
      → AreRunning earlier l.fn.accounts → (j : ℕ) → j < l.place → (d : Running)
      → IsRunning (facts_at (frame_in l.frame) l.frame.row.rights.now l.frame.size j ∷ earlier j)
      (get_or l.accounts j d);
  rest : (j : ℕ) → l.place ≤ j → (d : Running) → get_or l.accounts j d ≡ get_or l.fn.accounts j d;
}
