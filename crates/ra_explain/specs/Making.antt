-- A table and a plan that are laid out for a trigger: docs/DEFINITIONS.md, "Recorders".
use Rattle.std.specs.Prelude.{◌≡◌, ℕ}
use Rattle.ra_condition.specs.Contents.{TriggerContents}
use Rattle.ra_indirect.specs.Pools.{cells_of, tracked_of}
use Rattle.ra_memref.specs.Table.{TableSeen, IsFresh}
use Rattle.ra_trigger.specs.Kept.{no_trigger}
use Rattle.ra_member.specs.declared.trigger_run.TriggerRun.{TriggerRun}
use Rattle.ra_member.specs.Runs.{IsTriggerRun}
use Rattle.ra_explain.specs.Recorders.{trigger_cells, trigger_tracked}

-- the table is over the cells and tracked masks of the trigger
pub record IsOver (t : TriggerContents) (table : TableSeen) : Type 0 where
  pub cells : cells_of table.nodes ≡ trigger_cells t
  pub tracked : tracked_of table.nodes ≡ trigger_tracked t

-- a table without a frame over the trigger, and the trigger's plan, of which nothing is kept yet
pub record IsLaidOut (t : TriggerContents) (size : ℕ) (table : TableSeen) (run : TriggerRun) : Type 0 where
  pub fresh : IsFresh table.nodes size table
  pub over : IsOver t table
  pub run_too : IsTriggerRun table.nodes t run
  pub plain : run.trigger ≡ no_trigger t
