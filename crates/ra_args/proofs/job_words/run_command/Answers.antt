use Rattle.std.proofs.lemmas.Result.{IfOk-weaker}
use Rattle.ra_args.proofs.CommandLemmas.{ruled, still_local}
use Rattle.ra_args.proofs.job_words.run_command.Goals as goal

pub returns-clause-app : goal.returns-clause-app
returns-clause-app c =
    let first = ruled _ _ _ c.in_ok-arg.ensures c.required.ensures.local _ _ c.new.ensures.app
    c.required.ensures.rule in
    let second = ruled _ _ _ c.in_ok-arg-2.ensures c.required-2.ensures.local _ _ first c.required-2.ensures.rule in
    let before = ruled _ _ _ c.in_ok-arg-3.ensures c.optional.ensures.local _ _ second c.optional.ensures.rule in
    IfOk-weaker c.arg-4.result _ _
    (λ new adds. ruled _ _ _ adds c.optional-2.ensures.local _ _ before c.optional-2.ensures.rule)
    c.arg-4.ensures

pub returns-clause-local : goal.returns-clause-local
returns-clause-local c =
    let first = still_local _ _ _ c.in_ok-arg.ensures c.required.ensures.local c.new.ensures.local in
    let second = still_local _ _ _ c.in_ok-arg-2.ensures c.required-2.ensures.local first in
    let before = still_local _ _ _ c.in_ok-arg-3.ensures c.optional.ensures.local second in
    IfOk-weaker c.arg-4.result _ _
    (λ new adds. still_local _ _ _ adds c.optional-2.ensures.local before) c.arg-4.ensures
