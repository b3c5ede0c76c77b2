use Rattle.std.proofs.Common.{◌≡◌, ℕ, List, length}
use Rattle.ra_condition.specs.declared.condition.Condition.{Condition}
use Rattle.ra_account.specs.Groups.{AllFit, AllGroupsStandAt, AreGroupAccounts, GroupRow}
use Rattle.ra_account.proofs.copying.copy_groups.Given as goal

-- the accounts so far are copied
abbrev pub invariant-loop-group : goal.invariant-loop-group
invariant-loop-group l = record {
  many : length l.copy.items ≡ l.group-index;
  fit : (gs : List (List Condition)) → AllFit gs l.groups → AllFit gs l.copy.items;
  same : (gs : List (List Condition)) (from size : ℕ) (frames : List GroupRow) → AreGroupAccounts gs
      from size frames l.groups → AreGroupAccounts gs from size frames l.copy.items;
  stand : (count : ℕ) → AllGroupsStandAt count l.groups → AllGroupsStandAt count l.copy.items;
}
