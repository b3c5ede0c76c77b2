use Rattle.std.proofs.Common.{ap, sym, subst}
use Rattle.ra_progress.proofs.Checks.{accepted_none}
use Rattle.ra_meaning.specs.Order.{shape_of}
use Rattle.ra_runtime.proofs.course.Course.restore.Goals as goal

pub returns-clause-ok : goal.returns-clause-ok
returns-clause-ok c = rw c.accepts.ensures.same at c.take_up.ensures.taken

pub returns-clause-accepted : goal.returns-clause-accepted
returns-clause-accepted c =
    accepted_none (shape_of c.args.self.now.set) c.args.bytes.now c.in_ok-accepts.ensures.accepted
