use Rattle.std.proofs.Common.{ap, codes, ◌∙◌}
use Rattle.std.proofs.lemmas.Result.{IfOk-weaker}
use Rattle.clap.specs.Words.{App, with_subcommand}
use Rattle.ra_args.specs.JobCommand.{explain_app, pair_app, run_app, short_app}
use Rattle.ra_args.proofs.CommandLemmas.{bare}
use Rattle.ra_args.proofs.job_words.player_command.Goals as goal

pub returns : goal.returns
returns c =
    let explain = λ (a : App). with_subcommand a explain_app.top in
    let normal = λ (a : App). with_subcommand a (pair_app (codes "normal") (codes "SET") (codes "OUT")).top in
    let lint = λ (a : App). with_subcommand a (short_app (codes "lint") (codes "SET")).top in
    let import_ = λ (a : App). with_subcommand a (pair_app (codes "import") (codes "FILE") (codes "SET")).top in
    let make = λ (a : App). with_subcommand a (short_app (codes "make") (codes "N")).top in
    let check = λ (a : App). with_subcommand a (short_app (codes "check") (codes "SET")).top in
    let run = λ (a : App). with_subcommand a run_app.top in
    let before = c.in_ok-normal.ensures ∙ ap normal (c.in_ok-lint.ensures ∙ ap lint
    (c.in_ok-import.ensures ∙ ap import_ (c.in_ok-make.ensures ∙ ap make (c.in_ok-check.ensures
    ∙ ap check (c.in_ok-run.ensures ∙ ap run (bare _ _ c.no_binary_name-bare.ensures c.new.ensures.app)))))) in
    IfOk-weaker c.with_explain.result _ _ (λ new is. is ∙ ap explain before) c.with_explain.ensures
