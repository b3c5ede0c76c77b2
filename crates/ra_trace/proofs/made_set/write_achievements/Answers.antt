use Rattle.std.proofs.Common.{arith}
use Rattle.ra_trace.proofs.SetLines.{next_line, no_line}
use Rattle.ra_trace.proofs.made_set.write_achievements.Goals as goal

pub loop-id-preserved : goal.loop-id-preserved
loop-id-preserved c =
    let e = c.in_ok-write_achievement.ensures in
    next_line c.args.count c.loop-id.id _ _ _ _ _ c.loop-id-test.true e.text e.draws c.loop-id.invariant

pub returns : goal.returns
returns c = no_line c.args.count c.loop-id.id _ _ _ (omega arith) c.loop-id.invariant
