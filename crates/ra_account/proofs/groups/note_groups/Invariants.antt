use Rattle.std.proofs.Common.{◌≡◌, ℕ, ◌+◌, ◌<◌, ◌≤◌, ◌∷◌, List, drop, map, take, get_or}
use Rattle.ra_condition.specs.Contents.{group_contents}
use Rattle.ra_account.specs.declared.group_account.GroupAccount.{GroupAccount}
use Rattle.ra_account.specs.Groups.{GroupRow, AreGroupAccounts, FitsGroup, GroupStandsAt, IsGroupAccount, group_at}
use Rattle.ra_account.specs.Groups.{part_of, row_in, start_at, wants_of}
use Rattle.ra_trigger.specs.Steps.{frames_along}
use Rattle.ra_account.specs.Stops.{stops_of_all}
use Rattle.ra_account.proofs.groups.note_groups.Given as goal

-- the frame is noted in the accounts of the groups so far, and the others are as they were
abbrev pub invariant-loop-place : goal.invariant-loop-place
invariant-loop-place l = record {
  starts : l.start ≡ l.from + start_at (map group_contents l.groups) l.place;
  fit : (g : ℕ) → g < l.place → (d : GroupAccount) → FitsGroup (group_at (map group_contents l.groups) g)
      (get_or l.accounts g d);
  stand : (g : ℕ) → g < l.place → (d : GroupAccount) → GroupStandsAt (l.frame.at + 1) (get_or l.accounts g d);
  noted : (earlier : List GroupRow)
      → AreGroupAccounts (map group_contents l.groups) l.from l.frame.size earlier l.fn.accounts
      → (g : ℕ) → g < l.place → (d : GroupAccount)
      → IsGroupAccount (group_at (map group_contents l.groups) g) l.frame.size
      (map (part_of (group_at (map group_contents l.groups) g) (l.from + start_at (map group_contents l.groups) g))
      (row_in l.frame.row ∷ earlier)) (get_or l.accounts g d);
  wants : (g : ℕ) → g < l.place → (d : GroupAccount)
      → (get_or l.accounts g d).wants.items ≡ wants_of (group_at (map group_contents l.groups) g)
      (part_of (group_at (map group_contents l.groups) g) (l.from + start_at (map group_contents l.groups) g)
      (row_in l.frame.row));
  stops_too : record { paused = l.paused; reset = l.reset }
      ≡ stops_of_all (frames_along (take l.place (map group_contents l.groups)) (drop l.from l.frame.row.truths.now)
      (drop l.from l.frame.row.lefts.now) (drop l.from l.frame.row.hits.now));
  rest : (g : ℕ) → l.place ≤ g → (d : GroupAccount) → get_or l.accounts g d ≡ get_or l.fn.accounts g d;
}
