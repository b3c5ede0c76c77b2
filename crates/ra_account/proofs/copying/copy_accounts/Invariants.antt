use Rattle.std.proofs.Common.{◌≡◌, ℕ, ◌<◌, List, length, get_or}
use Rattle.ra_account.specs.declared.facts.Facts.{Facts}
use Rattle.ra_account.specs.declared.running.Running.{Running}
use Rattle.ra_account.specs.Running.{AllRunAt, AreRunning, IsRunning}
use Rattle.ra_account.proofs.copying.copy_accounts.Given as goal

-- the accounts so far are copied
abbrev pub invariant-loop-account : goal.invariant-loop-account
invariant-loop-account l = record {
  many : length l.copy.items ≡ l.account-index;
  same : (frames : ℕ → List Facts) → AreRunning frames l.accounts → (j : ℕ)
      → j < length l.copy.items → (d : Running) → IsRunning (frames j) (get_or l.copy.items j d);
  stand : (count : ℕ) → AllRunAt count l.accounts → AllRunAt count l.copy.items;
}
