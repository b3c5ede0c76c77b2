-- What a slot of a recorder keeps: docs/DEFINITIONS.md, "Recorders".
use Rattle.std.specs.Prelude.{◌≡◌, ℕ, ◌+◌, ◌*◌, ◌<◌, Bool, Option, None, Some, List, length}
use Rattle.ra_condition.specs.Contents.{TriggerContents, trigger_hits}
use Rattle.ra_memory.specs.Image.{History}
use Rattle.ra_text.specs.Words.{words_at}
use Rattle.ra_memref.specs.Table.{TableSeen}
use Rattle.ra_trigger.specs.Steps.{TriggerKept}
use Rattle.ra_explain.specs.declared.slot.Slot.{Slot}
use Rattle.ra_explain.specs.Recorders.{trigger_cells, trigger_tracked, KeptRows, StandsFor}
use Rattle.ra_explain.specs.RowLists.{rows_from}

-- how many numbers are kept of cells, of tracked masks and of hits
pub record Counts : Type 0 where
  pub cells : ℕ
  pub priors : ℕ
  pub hits : ℕ

-- the counts of a trigger
abbrev pub counts_of : TriggerContents → Counts
counts_of t = record { cells = length (trigger_cells t); priors = length (trigger_tracked t); hits = trigger_hits t }

-- a table and an achievement keep this many
pub record HaveCounts (n : Counts) (table : TableSeen) (trigger : TriggerKept) : Type 0 where
  pub cells : length table.cells ≡ n.cells
  pub priors : length table.priors ≡ n.priors
  pub hits : length trigger.hits ≡ n.hits

-- what is kept, of a table, an achievement and some rows
abbrev pub kept_by : TableSeen → TriggerKept → List (List Bool) → KeptRows
kept_by table trigger rows = record { trigger = trigger; cells = table.cells; priors = table.priors; rows = rows }

-- what a slot keeps, by the rows from each place back
abbrev pub slot_kept : Counts → List (List (List Bool)) → Slot → KeptRows
slot_kept n behind slot = record {
  trigger = record { state = slot.state; measured = slot.measured; hits = words_at slot.hits.items 0 n.hits };
  cells = words_at slot.numbers.items 0 n.cells;
  priors = words_at slot.numbers.items (4 * n.cells) n.priors;
  rows = rows_from behind slot.latest;
}

-- what is kept stands for some history
pub record StandsSomewhere (t : TriggerContents) (kept : KeptRows) : Type 0 where
  pub history : History
  pub stands : StandsFor t kept history

-- a slot has four bytes for each number and a place that is there, and stands for some history
pub record FitsSlot (t : TriggerContents) (behind : List (List (List Bool))) (slot : Slot) : Type 0 where
  pub hits : length slot.hits.items ≡ 4 * trigger_hits t
  pub numbers : length slot.numbers.items ≡ 4 * (length (trigger_cells t) + length (trigger_tracked t))
  pub latest : slot.latest < length behind
  pub somewhere : StandsSomewhere t (slot_kept (counts_of t) behind slot)

-- so has a slot that is not empty
abbrev pub FitsOptional : TriggerContents → List (List (List Bool)) → Option Slot → Type 0
FitsOptional t behind None = Unit {0}
FitsOptional t behind (Some slot) = FitsSlot t behind slot

-- a slot of what a table and an achievement keep, and of a place
pub record IsSlotOf (table : TableSeen) (trigger : TriggerKept) (latest : ℕ) (slot : Slot) : Type 0 where
  pub kept : (n : Counts) (behind : List (List (List Bool))) → HaveCounts n table trigger
      → slot_kept n behind slot ≡ kept_by table trigger (rows_from behind latest)
  pub hits : length slot.hits.items ≡ 4 * length trigger.hits
  pub numbers : length slot.numbers.items ≡ 4 * (length table.cells + length table.priors)
  pub latest_too : slot.latest ≡ latest
