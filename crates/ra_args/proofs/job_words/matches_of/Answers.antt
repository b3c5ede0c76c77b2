use Rattle.std.proofs.Common.{◌≡◌, ◌∙◌, ap, subst, true, map, ℕ, List, Result, Ok, Err, refl}
use Rattle.std.specs.Prelude.{IfErr, IfOk, string_bytes}
use Rattle.clap.specs.Words.{App, HasMatchesOf, is_simple, kind_of, subcommand_of, subcommand_rows_of, takes}
use Rattle.clap.specs.declared.error.kind.ErrorKind.TheVariants.{OutOfMemory}
use Rattle.clap.specs.declared.parser.matches.ArgMatches.{ArgMatches}
use Rattle.ra_args.specs.JobCommand.{player_app}
use Rattle.ra_args.proofs.job_words.matches_of.Goals as goal

pub returns-clause-passes : goal.returns-clause-passes
returns-clause-passes c =
    subst (λ (a : App). IfErr c.try_get_matches_from.result
    (λ e. takes a (map string_bytes c.args.words.now) ≡ true → kind_of e ≡ OutOfMemory))
    c.in_ok-player.ensures c.try_get_matches_from.ensures.passes

simple : is_simple player_app ≡ true
simple = refl

-- what the matches of an app say of the subcommand
found_of_matches : {E : Type 0} (r : Result ArgMatches E) (a : App) (words : List (List ℕ)) → a
    ≡ player_app → IfOk r (HasMatchesOf a words)
    → IfOk r (λ m. subcommand_rows_of m ≡ subcommand_of player_app words)
found_of_matches (Ok m) a words same has =
    (has (ap is_simple same ∙ simple)).1 ∙ ap (λ (x : App). subcommand_of x words) same
found_of_matches (Err e) a words same has = tt

pub returns-clause-found : goal.returns-clause-found
returns-clause-found c =
    found_of_matches c.try_get_matches_from.result _ (map string_bytes c.args.words.now)
    c.in_ok-player.ensures c.try_get_matches_from.ensures.matches
