-- What a list of rows is seen as, by its fields, and what these always have: docs/DEFINITIONS.md, "Recorders".
use Rattle.std.specs.Prelude.{◌≡◌, ◌*◌, length}
use Rattle.ra_explain.specs.declared.row_list.RowList.TheInside.{Inside}
use Rattle.ra_explain.specs.RowLists.{RowsSeen, AreEarlier, behind_each}

-- a list of rows by its fields
abbrev pub rows_seen : Inside → RowsSeen
rows_seen t = record { width = t.width; behind = behind_each t.width t.truths.items t.links.items }

-- each row has its comparisons, and comes after a place that was there before it
pub record IsRowList (t : Inside) : Type 0 where
  pub whole : length t.truths.items ≡ length t.links.items * t.width
  pub earlier : AreEarlier t.links.items
