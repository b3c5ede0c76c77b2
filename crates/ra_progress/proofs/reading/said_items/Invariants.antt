use Rattle.std.proofs.Common.{◌≡◌, ◌++◌, drop, map}
use Rattle.ra_progress.specs.Contents.{kept_item}
use Rattle.ra_progress.specs.Saying.{said_items}
use Rattle.ra_progress.proofs.reading.said_items.Given as goal

-- what is left to say
abbrev pub invariant-loop-k : goal.invariant-loop-k
invariant-loop-k l =
    map kept_item l.items.items ++ said_items l.bytes (drop l.k l.shape.items.items)
    (drop l.k l.places) ≡ said_items l.bytes l.shape.items.items l.places
