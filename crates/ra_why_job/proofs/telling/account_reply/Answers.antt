use Rattle.ra_why_job.proofs.WatchLemmas.{account_is}
use Rattle.ra_why_job.proofs.telling.account_reply.Goals as goal

pub returns-in-Ok-clause-says : goal.returns-in-Ok-clause-says
returns-in-Ok-clause-says c = λ history stands. account_is c.args.id c.args.watcher.now history
    c.in-Ok.text.items stands c.in-Ok.ensures
