use Rattle.std.proofs.Common.{◌≡◌, ◌++◌, take, map}
use Rattle.ra_progress.specs.Contents.{ItemsFit}
use Rattle.ra_progress.specs.Spelling.{named_blocks, item_bytes}
use Rattle.ra_items.specs.Rests.{seen_by}
use Rattle.ra_items.specs.Shapes.{run_shape}
use Rattle.ra_items.proofs.saved.put_runs.Given as goal

-- the items so far with their names and lengths
abbrev pub invariant-loop-k : goal.invariant-loop-k
invariant-loop-k l = record {
  bytes : l.bytes.items ≡ l.initial.bytes.items
      ++ named_blocks (take l.k l.names) (take l.k (map item_bytes (seen_by l.runs l.rests)));
  fit : ItemsFit (map run_shape (take l.k l.runs)) (take l.k (seen_by l.runs l.rests));
}
