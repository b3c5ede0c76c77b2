-- What a trigger keeps, as its calls leave it: docs/DEFINITIONS.md, "Achievement states" and "Openings and snapshots".
use Rattle.std.specs.Prelude.{ℕ, ◌==◌, if◌then◌else◌, None, Some, List, map, replicate}
use Rattle.std.specs.List.{flat_map}
use Rattle.ra_condition.specs.Chains.{pass_order}
use Rattle.ra_condition.specs.Contents.{TriggerContents, groups_of, trigger_hits}
use Rattle.ra_group.specs.Along.{pause_count}
use Rattle.ra_trigger.specs.declared.state.State.TheVariants.{Waiting}
use Rattle.ra_trigger.specs.declared.change.Change.{Change}
use Rattle.ra_trigger.specs.Steps.{TriggerKept}

-- what the plain opening keeps of an achievement: it waits, and its numbers are 0
abbrev pub no_trigger : TriggerContents → TriggerKept
no_trigger t = record { state = Waiting; measured = 0; hits = replicate (trigger_hits t) 0 }

-- the pass order of each group, one group after the other
abbrev pub orders_of : TriggerContents → List ℕ
orders_of t = flat_map pass_order (groups_of t)

-- how many conditions of each group stand in pause chains
abbrev pub pauses_of : TriggerContents → List ℕ
pauses_of t = map pause_count (groups_of t)

-- what a frame tells: the states before and after, and the measured number where it changed
abbrev pub change_between : TriggerKept → TriggerKept → Change
change_between old new =
    record {
      before = old.state;
      after = new.state;
      measured = if new.measured == old.measured then None else Some new.measured;
    }
