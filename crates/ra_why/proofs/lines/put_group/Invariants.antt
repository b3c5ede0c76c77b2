use Rattle.std.proofs.Common.{◌≡◌, ◌++◌, ℕ, List, map, slice_index}
use Rattle.std.specs.List.{flat_map, range_with_len}
use Rattle.ra_account.specs.Groups.{GroupRow, IsGroupAccount, shown}
use Rattle.ra_account.specs.Text.{told_of}
use Rattle.ra_condition.specs.Contents.{condition_at, group_contents}
use Rattle.ra_why.specs.Text.{condition_lines}
use Rattle.ra_why.proofs.lines.put_group.Given as goal

-- the lines of the conditions so far are written
abbrev pub invariant-loop-place : goal.invariant-loop-place
invariant-loop-place l = (size : ℕ) (rows : List GroupRow)
    → IsGroupAccount (group_contents l.told.group.now) size rows l.account
    → l.text.items ≡ l.fn.text.items ++ flat_map
    (λ j. condition_lines l.told.number j (condition_at (group_contents l.told.group.now) j)
    (slice_index l.told.hits.now j) l.told.frames
    (told_of (map (shown (group_contents l.told.group.now) size j) rows)))
    (range_with_len 0 l.place)
