use Rattle.std.proofs.Common.{◌≡◌, ◌*◌, ◌≤◌, ◌^◌, take, sum_by}
use Rattle.ra_progress.specs.Layout.{item_length}
use Rattle.ra_progress.proofs.own.items_length.Given as goal

abbrev pub invariant-loop-item : goal.invariant-loop-item
invariant-loop-item l = record {
  sum : l.total ≡ sum_by item_length (take l.item-index l.items);
  most : l.total ≤ 2 ^ 36 * l.item-index;
}
