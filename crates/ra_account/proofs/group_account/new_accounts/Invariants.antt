use Rattle.std.proofs.Common.{◌≡◌, length, []}
use Rattle.ra_account.specs.Running.{AllRunAt, AreRunning}
use Rattle.ra_account.proofs.group_account.new_accounts.Given as goal

-- the accounts so far are before the first frame
abbrev pub invariant-loop : goal.invariant-loop
invariant-loop l = record {
  many : length l.accounts.items ≡ l.counter;
  begun : AreRunning (λ j. []) l.accounts.items;
  stand : AllRunAt 0 l.accounts.items;
}
