use Rattle.std.proofs.lemmas.Result.{IfOk-weaker}
use Rattle.ra_args.proofs.CommandLemmas.{ruled, still_local}
use Rattle.ra_args.proofs.job_words.short_command.Goals as goal

pub returns-clause-app : goal.returns-clause-app
returns-clause-app c =
    IfOk-weaker c.arg.result _ _ (λ new adds. ruled _ _ _ adds c.required.ensures.local _ _
    c.new.ensures.app c.required.ensures.rule)
    c.arg.ensures

pub returns-clause-local : goal.returns-clause-local
returns-clause-local c =
    IfOk-weaker c.arg.result _ _
    (λ new adds. still_local _ _ _ adds c.required.ensures.local c.new.ensures.local) c.arg.ensures
