use Rattle.std.proofs.Common.{rules}
use Rattle.ra_jobs.proofs.CountLemmas.{achievements_counted}
use Rattle.ra_jobs.proofs.counting.achievements.Goals as goal

pub returns : goal.returns
returns c =
    achievements_counted c.args.items.now c.loop-item.item-index c.loop-item.count
    (search rules) c.loop-item.invariant.0
