use Rattle.std.proofs.Common.{◌-◌, length, map}
use Rattle.ra_set.specs.Contents.{item_contents}
use Rattle.ra_items.proofs.RestSteps.{IsFar}
use Rattle.ra_items.proofs.rests.Rests.step.Given as goal

abbrev pub invariant-loop-place : goal.invariant-loop-place
invariant-loop-place l =
    IsFar l.table (map item_contents l.items) l.fn.runs l.fn.self l.initial.self.schedule l.runs l.self l.at

abbrev pub decreases-loop-place : goal.decreases-loop-place
decreases-loop-place l = length l.items - l.at
