use Rattle.std.proofs.Common.{ap, subst}
use Rattle.ra_why_job.specs.Says.{history_in, trace_in}
use Rattle.ra_why_job.specs.Watching.{IsReason}
use Rattle.ra_why_job.specs.declared.failed.WatchFailed.TheVariants as watch
use Rattle.ra_why_job.proofs.WatchLemmas.{long_says, refused_says}
use Rattle.ra_why_job.proofs.telling.stopped_reply.Goals as goal

pub returns-in_ok-refused_reply-in-Refused-clause-says : goal.returns-in_ok-refused_reply-in-Refused-clause-says
returns-in_ok-refused_reply-in-Refused-clause-says c = λ id t bytes reason.
    refused_says id t bytes c.in_ok-refused_reply-in-Refused.field-0 c.in-Refused.at c.in-Refused.why
    (subst (IsReason (history_in t bytes) (trace_in bytes).stop)
    (ap (λ e. watch.Trace e) c.in-Refused.is) reason) c.in_ok-refused_reply-in-Refused.ensures

pub returns-in_ok-long_reply-in-TooLong-clause-says : goal.returns-in_ok-long_reply-in-TooLong-clause-says
returns-in_ok-long_reply-in-TooLong-clause-says c = λ id t bytes reason.
    long_says id t bytes c.in_ok-long_reply-in-TooLong.field-0
    (subst (IsReason (history_in t bytes) (trace_in bytes).stop)
    (ap (λ e. watch.Trace e) c.in-TooLong.is) reason) c.in_ok-long_reply-in-TooLong.ensures
