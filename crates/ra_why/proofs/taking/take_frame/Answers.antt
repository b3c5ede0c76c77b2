use Rattle.ra_why.proofs.FollowLemmas.{framed_on}
use Rattle.ra_why.proofs.taking.take_frame.Goals as goal

pub returns-clause-goes : goal.returns-clause-goes
returns-clause-goes g c = λ m follows.
    framed_on c.args.watcher.now c.frame.new.self m follows c.frame.ensures.rest c.frame.result c.frame.ensures.stands
    c.frame.ensures.answers
