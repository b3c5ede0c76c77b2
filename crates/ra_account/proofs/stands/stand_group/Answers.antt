use Rattle.std.proofs.Common.{[], sym}
use Rattle.ra_group.specs.Equations.{Frame, frame_of, settled_at}
use Rattle.ra_account.proofs.stands.stand_group.Goals as goal

pub returns-else-may_pause-clause-paused : goal.returns-else-may_pause-clause-paused
returns-else-may_pause-clause-paused c =
    let f : Frame = frame_of c.args.conditions.now c.args.truths.now [] c.args.hits.now in
    sym (c.may_pause.ensures c.if-may_pause.false (λ j. (settled_at f j).valid))
