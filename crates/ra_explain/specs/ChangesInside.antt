-- What the changes of a condition are seen as, by their fields, and what these always have: docs/DEFINITIONS.md,
-- "Explanations".
use Rattle.std.specs.Prelude.{◌≡◌, ◌≤◌, ◌^◌}
use Rattle.ra_explain.specs.declared.hit_changes.HitChanges.TheInside.{Inside}
use Rattle.ra_explain.specs.HitChanges.{ChangesSeen, unchanged, changed_by}

-- a condition by its changes
abbrev pub changes_seen : Inside → ChangesSeen
changes_seen t = changed_by (unchanged t.since) t.list.items

-- its hits are known, and each row has a number of 32 bits
pub record AreChanges (t : Inside) : Type 0 where
  pub hits : t.hits ≡ (changes_seen t).hits
  pub room : (changes_seen t).row ≤ 2 ^ 32
