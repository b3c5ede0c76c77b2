use Rattle.std.proofs.Common.{◌∙◌, ap}
use Rattle.clap.specs.declared.builder.arg.Arg.{Arg}
use Rattle.ra_args.proofs.CommandLemmas.{required_by}
use Rattle.ra_args.proofs.job_words.required.Goals as goal

pub returns-clause-rule : goal.returns-clause-rule
returns-clause-rule c = required_by c.new.result c.required.result c.action.result c.args.id.now
    c.new.ensures.rule c.required.ensures c.action.ensures

pub returns-clause-local : goal.returns-clause-local
returns-clause-local c =
    ap (λ (a : Arg). a.global) c.action.ensures ∙ ap (λ (a : Arg). a.global) c.required.ensures
    ∙ c.new.ensures.optional.1
