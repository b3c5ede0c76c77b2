use Rattle.std.proofs.Common.{◌≡◌, ℕ, [], length, map}
use Rattle.ra_condition.specs.Contents.{group_contents}
use Rattle.ra_account.specs.Groups.{AllFit, AllGroupsStandAt, AreGroupAccounts}
use Rattle.ra_account.proofs.trigger_account.new_groups.Given as goal

-- the accounts so far are before the first frame
abbrev pub invariant-loop-group : goal.invariant-loop-group
invariant-loop-group l = record {
  many : length l.accounts.items ≡ l.group-index;
  fit : AllFit (map group_contents l.groups) l.accounts.items;
  stand : AllGroupsStandAt 0 l.accounts.items;
  begun : (from size : ℕ) → AreGroupAccounts (map group_contents l.groups) from size [] l.accounts.items;
}
