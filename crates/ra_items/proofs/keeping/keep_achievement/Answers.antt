use Rattle.std.proofs.Common.{◌<◌, ◌^◌, arith}
use Rattle.ra_display.specs.Keeping.{PutsWords, seen_hits}
use Rattle.ra_items.proofs.KeptItems.{achievement_fits}
use Rattle.ra_items.proofs.keeping.keep_achievement.Goals as goal

pub returns-clause-fits : goal.returns-clause-fits
returns-clause-fits c =
    let run = c.args.run.now in
    let small : run.run.trigger.measured < 2 ^ 32 = omega arith in
    let hits : PutsWords _ _ _ _ (seen_hits c.args.owed c.args.counts.now.counted
    run.run.trigger.hits) = rw (c.hits.ensures, c.counted.ensures) at c.put_hits.ensures in
    achievement_fits run c.args.counts.now c.args.owed _ _ _ _ small hits
