use Rattle.std.proofs.Common.{◌≡◌, ◌≤◌, take, sum_by}
use Rattle.ra_set.specs.Contents.{item_contents}
use Rattle.ra_jobs.proofs.CountLemmas.{ranks}
use Rattle.ra_jobs.proofs.counting.leaderboards.Given as goal

abbrev pub invariant-loop-item : goal.invariant-loop-item
invariant-loop-item l = (l.count ≡ sum_by (λ item. ranks (item_contents item))
    (take l.item-index l.items)) × (l.count ≤ l.item-index)
