use Rattle.std.proofs.Common.{◌≡◌, ◌+◌, ◌++◌, ℕ, List, drop, map}
use Rattle.ra_account.specs.Groups.{AreGroupAccounts, GroupRow, start_at}
use Rattle.ra_condition.specs.Contents.{group_contents}
use Rattle.ra_why.specs.Text.{groups_lines}
use Rattle.ra_why.proofs.lines.put_alts.Given as goal

-- the lines that are written, and those of the groups that are left, are all
abbrev pub invariant-loop-place : goal.invariant-loop-place
invariant-loop-place l = record {
  starts : l.start ≡ l.told.from + start_at (map group_contents l.told.groups.now) l.place;
  written : (size : ℕ) (rows : List GroupRow)
      → AreGroupAccounts (map group_contents l.told.groups.now) l.told.from size rows l.accounts
      → l.text.items ++ groups_lines (1 + l.place) l.start
      (map group_contents (drop l.place l.told.groups.now)) l.told.hits.now l.told.frames size rows
      ≡ l.fn.text.items ++ groups_lines 1 l.told.from
      (map group_contents l.told.groups.now) l.told.hits.now l.told.frames size rows;
}
