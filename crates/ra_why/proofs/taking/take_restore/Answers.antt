use Rattle.std.proofs.Common.{subst, Bool}
use Rattle.ra_why.specs.Watching.{TakesUp}
use Rattle.ra_why.proofs.FollowLemmas.{more_watching, restored_on}
use Rattle.ra_why.proofs.taking.take_restore.Goals as goal

pub returns-then-branch-clause-taken : goal.returns-then-branch-clause-taken
returns-then-branch-clause-taken c = λ m follows.
    restored_on c.args.watcher.now c.restore.new.self m follows c.in_ok-restore.ensures.rest c.args.slot
    (subst (λ (b : Bool). TakesUp c.args.watcher.now c.restore.new.self c.args.slot b) c.if-branch.true
    c.in_ok-restore.ensures.restored)

pub returns-then-branch-clause-watches : goal.returns-then-branch-clause-watches
returns-then-branch-clause-watches c =
    λ most w. more_watching most c.restore.new.self (c.in_ok-restore.ensures.watches most w)
