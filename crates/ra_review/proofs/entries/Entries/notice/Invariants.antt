use Rattle.std.proofs.Common.{◌++◌, ℕ, List, map, take}
use Rattle.ra_set.specs.Contents.{item_contents}
use Rattle.ra_review.specs.Reporting.{AreEntries}
use Rattle.ra_review.specs.Shown.{notice_line}
use Rattle.ra_review.proofs.entries.Entries.notice.Given as goal

-- the notices so far were added
abbrev pub invariant-loop-notice : goal.invariant-loop-notice
invariant-loop-notice l = (entries : List (List ℕ)) → AreEntries l.initial.self entries
    → AreEntries l.self (entries ++ map (notice_line (item_contents l.item)) (take l.notice-index l.notices))
