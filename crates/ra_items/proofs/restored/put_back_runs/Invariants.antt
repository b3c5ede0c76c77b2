use Rattle.std.proofs.Common.{◌≡◌, List, ◌++◌, map, take, drop}
use Rattle.ra_indirect.specs.declared.node.Node.{Node}
use Rattle.ra_set.specs.Contents.{ItemContents}
use Rattle.ra_items.specs.ItemRuns.{kept_run}
use Rattle.ra_items.specs.AllRuns.{AreItemRuns}
use Rattle.ra_items.specs.Restoring.{restored_items}
use Rattle.ra_items.proofs.restored.put_back_runs.Given as goal

-- what is put back so far, and what the bytes say of the rest
abbrev pub invariant-loop-place : goal.invariant-loop-place
invariant-loop-place l = record {
  kept : map kept_run (take l.place l.runs) ++ restored_items l.bytes (drop l.place l.fn.runs)
      (drop l.place l.places) ≡ restored_items l.bytes l.fn.runs l.places;
  runs : (nodes : List Node) (items : List ItemContents) → AreItemRuns nodes items l.fn.runs
      → AreItemRuns nodes items l.runs;
  rest : drop l.place l.runs ≡ drop l.place l.fn.runs;
}
