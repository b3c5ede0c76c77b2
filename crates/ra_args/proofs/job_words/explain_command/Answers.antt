use Rattle.std.proofs.lemmas.Result.{IfOk-weaker}
use Rattle.ra_args.proofs.CommandLemmas.{ruled, still_local}
use Rattle.ra_args.proofs.job_words.explain_command.Goals as goal

pub returns-clause-app : goal.returns-clause-app
returns-clause-app c =
    let first = ruled _ _ _ c.in_ok-arg.ensures c.required.ensures.local _ _ c.new.ensures.app
    c.required.ensures.rule in
    let before = ruled _ _ _ c.in_ok-arg-2.ensures c.required-2.ensures.local _ _ first c.required-2.ensures.rule in
    IfOk-weaker c.arg-3.result _ _
    (λ new adds. ruled _ _ _ adds c.required-3.ensures.local _ _ before c.required-3.ensures.rule)
    c.arg-3.ensures

pub returns-clause-local : goal.returns-clause-local
returns-clause-local c =
    let first = still_local _ _ _ c.in_ok-arg.ensures c.required.ensures.local c.new.ensures.local in
    let before = still_local _ _ _ c.in_ok-arg-2.ensures c.required-2.ensures.local first in
    IfOk-weaker c.arg-3.result _ _
    (λ new adds. still_local _ _ _ adds c.required-3.ensures.local before) c.arg-3.ensures
