use Rattle.std.proofs.Common.{subst}
use Rattle.ra_why_job.specs.Says.{history_in, trace_in}
use Rattle.ra_why_job.specs.Watching.{IsReason}
use Rattle.ra_why_job.proofs.telling.failed_reply.Goals as goal

pub returns-in-Trace-clause-says : goal.returns-in-Trace-clause-says
returns-in-Trace-clause-says c = λ id t bytes reason.
    c.stopped_reply.ensures.says id t bytes
    (subst (IsReason (history_in t bytes) (trace_in bytes).stop) c.in-Trace.is reason)
