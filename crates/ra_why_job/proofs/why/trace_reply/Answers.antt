use Rattle.std.proofs.Common.{Err, ap}
use Rattle.std.proofs.lemmas.Result.{IfOk-weaker}
use Rattle.ra_condition.specs.Contents.{trigger_contents}
use Rattle.ra_why_job.specs.Says.{is_traced}
use Rattle.ra_why_job.proofs.WatchLemmas.{told_failed, told_watched}
use Rattle.ra_why_job.proofs.why.trace_reply.Goals as goal

pub returns-in-Ok-clause-says : goal.returns-in-Ok-clause-says
returns-in-Ok-clause-says g c =
    told_watched c.args.id (trigger_contents c.args.text)
    (g.F.Files.content c.args.files.now c.args.trace.now) c.in-Ok.watcher
    c.in-Ok.ensures.watches.trigger c.in-Ok.ensures.ends c.account_reply.result
    c.account_reply.ensures.own c.account_reply.ensures.says

pub returns-in-Ok-clause-own : goal.returns-in-Ok-clause-own
returns-in-Ok-clause-own g c =
    IfOk-weaker c.account_reply.result _ _ (λ r zero. ap is_traced zero) c.account_reply.ensures.own

pub returns-in-Err-clause-says : goal.returns-in-Err-clause-says
returns-in-Err-clause-says g c =
    told_failed c.args.id (trigger_contents c.args.text)
    (g.F.Files.content c.args.files.now c.args.trace.now) c.in-Err.failed c.in-Err.ensures.ends
    c.failed_reply.result c.failed_reply.ensures.says

pub returns-in-Err-clause-failed : goal.returns-in-Err-clause-failed
returns-in-Err-clause-failed g c = λ is. c.in-Err.ensures.read (ap Err (c.failed_reply.ensures.failed is))
