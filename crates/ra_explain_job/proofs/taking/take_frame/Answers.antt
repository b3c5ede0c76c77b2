use Rattle.ra_explain_job.proofs.FollowLemmas.{framed_on, framed_here}
use Rattle.ra_explain_job.proofs.taking.take_frame.Goals as goal

pub returns-then-branch-clause-taken : goal.returns-then-branch-clause-taken
returns-then-branch-clause-taken g c = λ m follows.
    framed_here c.args.recorder.now c.frame.new.self m follows c.in_ok-frame.field-0
    c.in_ok-frame.ensures.taken c.in_ok-frame.ensures.slots c.if-branch.true

pub returns-clause-taken : goal.returns-clause-taken
returns-clause-taken g c = λ m follows.
    framed_on c.args.recorder.now c.frame.new.self m follows c.in_ok-frame.field-0
    c.in_ok-frame.ensures.taken c.in_ok-frame.ensures.slots c.if-branch.false
