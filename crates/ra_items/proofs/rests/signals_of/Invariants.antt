use Rattle.std.proofs.Common.{length, map}
use Rattle.ra_set.specs.Contents.{item_contents}
use Rattle.ra_schedule.specs.Signals.{AreSignals}
use Rattle.ra_items.specs.Rests.{AreItemsTold}
use Rattle.ra_items.proofs.rests.signals_of.Given as goal

abbrev pub invariant-loop-place : goal.invariant-loop-place
invariant-loop-place l =
    AreSignals l.table.nodes (AreItemsTold l.table.nodes (map item_contents l.items)) (length l.items) l.signals l.place
