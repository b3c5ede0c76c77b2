use Rattle.std.proofs.Common.{◌≡◌, ◌++◌, take, map}
use Rattle.ra_progress.specs.Contents.{kept_item}
use Rattle.ra_progress.specs.Spelling.{named_blocks, item_bytes}
use Rattle.ra_progress.proofs.writing.put_items.Given as goal

-- the items so far with their names and lengths
abbrev pub invariant-loop-k : goal.invariant-loop-k
invariant-loop-k l = l.bytes.items ≡ l.initial.bytes.items
    ++ named_blocks (take l.k l.names) (take l.k (map item_bytes (map kept_item l.items)))
