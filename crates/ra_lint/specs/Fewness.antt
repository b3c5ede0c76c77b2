-- How many groups have to be told apart by a number of 32 bits: docs/DEFINITIONS.md, "Warnings".
use Rattle.std.specs.Prelude.{ℕ, ◌+◌, ◌<◌, ◌^◌, length, sum_by}
use Rattle.ra_condition.specs.Contents.{trigger_hits}
use Rattle.ra_leaderboard.specs.Contents.{BoardContents}
use Rattle.ra_set.specs.Contents.{ItemContents, Unlocks, Ranks, SetContents}

-- how many conditions the triggers of a board have
abbrev pub board_hits : BoardContents → ℕ
board_hits b = trigger_hits b.start + trigger_hits b.cancel + trigger_hits b.submit

-- how many alt groups the triggers of a board have
abbrev pub board_alts : BoardContents → ℕ
board_alts b = length b.start.alts + length b.cancel.alts + length b.submit.alts

-- how many alt groups an item has
abbrev pub item_alts : ItemContents → ℕ
item_alts (Unlocks id t) = length t.alts
item_alts (Ranks id format b) = board_alts b

-- the set has fewer alt groups than 2^32, as each set that a file of the limit spells
abbrev pub HasFewAlts : SetContents → Type 0
HasFewAlts set = sum_by item_alts set.items < 2 ^ 32
