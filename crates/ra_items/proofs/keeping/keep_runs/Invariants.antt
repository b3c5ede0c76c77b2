use Rattle.std.proofs.Common.{map, take}
use Rattle.std.specs.List.{concat}
use Rattle.ra_progress.specs.Contents.{ItemsFit}
use Rattle.ra_progress.specs.Spelling.{item_bytes}
use Rattle.ra_display.specs.Keeping.{PutsOver}
use Rattle.ra_items.specs.Rests.{seen_by}
use Rattle.ra_items.specs.Shapes.{run_shape}
use Rattle.ra_items.proofs.keeping.keep_runs.Given as goal

-- the blocks of the items so far
abbrev pub invariant-loop-place : goal.invariant-loop-place
invariant-loop-place l = record {
  puts : PutsOver l.fn.row l.row l.fn.at l.next (concat (take l.place (map item_bytes (seen_by l.runs l.rests))));
  fit : ItemsFit (map run_shape (take l.place l.runs)) (take l.place (seen_by l.runs l.rests));
}
