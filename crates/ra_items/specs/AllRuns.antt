-- How all items of a set are kept and stepped, and their events: docs/DEFINITIONS.md, "What a runtime keeps".
use Rattle.std.specs.Prelude.{List, [], ◌∷◌, ◌++◌}
use Rattle.ra_indirect.specs.declared.node.Node.{Node}
use Rattle.ra_set.specs.Contents.{ItemContents}
use Rattle.ra_items.specs.declared.item_run.ItemRun.{ItemRun}
use Rattle.ra_items.specs.ItemRuns.{IsItemRun}
use Rattle.ra_meaning.specs.declared.event.Event.{Event}
use Rattle.ra_items.specs.RunEvents.{run_events, HasItemDigits}

-- each item with its plans
abbrev pub AreItemRuns : List Node → List ItemContents → List ItemRun → Type 0
AreItemRuns nodes [] [] = Unit {0}
AreItemRuns nodes (item ∷ items) (run ∷ runs) = IsItemRun nodes item run × AreItemRuns nodes items runs
AreItemRuns nodes _ _ = ⊥

-- the events of all items, in set order
abbrev pub all_events : List ItemContents → List ItemRun → List Event
all_events (item ∷ items) (run ∷ runs) = run_events item run ++ all_events items runs
all_events _ _ = []

-- the format of each board has digits
abbrev pub HaveDigits : List ItemContents → Type 0
HaveDigits [] = Unit {0}
HaveDigits (item ∷ items) = HasItemDigits item × HaveDigits items
