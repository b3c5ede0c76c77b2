use Rattle.std.proofs.Common.{◌∙◌, ap}
use Rattle.clap.specs.declared.builder.arg.Arg.{Arg}
use Rattle.ra_args.proofs.CommandLemmas.{option_by}
use Rattle.ra_args.proofs.job_words.optional.Goals as goal

pub returns-clause-rule : goal.returns-clause-rule
returns-clause-rule c = option_by c.new.result c.long.result c.action.result c.args.id
    c.new.ensures.rule c.long.ensures c.action.ensures

pub returns-clause-local : goal.returns-clause-local
returns-clause-local c =
    ap (λ (a : Arg). a.global) c.action.ensures ∙ ap (λ (a : Arg). a.global) c.long.ensures ∙ c.new.ensures.optional.1
