-- The values that clap gives.
use Rattle.std.proofs.Common.{◌≡◌, ◌∙◌, ◌||◌, ap, ap₂, codes, refl, Bool, true, false, Bor, Some}
use Rattle.clap.specs.Words.{AddsArg, App, Rule, Text, app_of, new_app, new_rule, first_of, first_value, is_simple}
use Rattle.clap.specs.Words.{rows_of, rule_of, with_rule}
use Rattle.clap.specs.Simple.{app_of_fields}
use Rattle.clap.specs.declared.builder.action.ArgAction.TheVariants.{Set}
use Rattle.clap.specs.declared.builder.arg.Arg.{Arg}
use Rattle.clap.specs.declared.builder.command.Command.{Command}
use Rattle.clap.specs.declared.builder.command.Command.TheViews.{out-Command}
use Rattle.clap.specs.declared.parser.matches.Found.{Found}
use Rattle.clap.proofs.OnLiterals.{clap_on_literals}
use Rattle.clap.proofs.WalkLemmas.{first_value-rows}
use Rattle.ra_args.specs.JobCommand.{bare_app, option_rule, player_app, required_rule}

-- a value by its row
pub value_in_rows : (f : Found) (id : Text) → first_value f id ≡ first_of id (rows_of f)
value_in_rows f id = first_value-rows f id

-- the matches of the command are those of its definition
pub simple : is_simple player_app ≡ true
unfolding clap_on_literals
simple = refl

-- the command without a name before its words
pub bare : (old new : Command) → out-Command new ≡ record (out-Command old)
    { no_binary_name = true } → app_of old ≡ new_app (codes "ra_player") → app_of new ≡ bare_app
bare old new is app =
    ap app_of_fields is ∙ ap (λ (a : App). record a { top = record a.top { no_binary_name = true } }) app

-- a new argument that was made required, and then set by its values, has the rule of a word that has to be there
pub required_by : (new asked set : Arg) (id : Text) → rule_of new ≡ new_rule id → asked ≡ record new { required = true }
    → set ≡ record asked { action = Some Set } → rule_of set ≡ required_rule id
required_by new asked set id rule asks sets =
    ap rule_of sets ∙ ap (λ (a : Arg). rule_of (record a { action = Some Set })) asks
    ∙ ap (λ (r : Rule). record r { required = true; action = Some Set }) rule

-- a new argument that was given a flag, and then set by its values, has the rule of an option
pub option_by : (new named set : Arg) (id : Bor Text) → rule_of new ≡ new_rule id.now → named
    ≡ record new { long = Some id }
    → set ≡ record named { action = Some Set } → rule_of set ≡ option_rule id.now
option_by new named set id rule names sets =
    ap rule_of sets ∙ ap (λ (a : Arg). rule_of (record a { action = Some Set })) names
    ∙ ap (λ (r : Rule). record r { long = Some id.now; action = Some Set }) rule

module _ (old new : Command) (added : Arg) (adds : AddsArg old added new) (local : added.global ≡ false) where
  -- a command has the rule of an argument that was added
  pub ruled : (app : App) (rule : Rule) → app_of old ≡ app → rule_of added ≡ rule → app_of new ≡ with_rule app rule
  ruled app rule is of = adds.shape local ∙ ap₂ with_rule is of

  -- and still none that its jobs share
  pub still_local : (out-Command old).has_globals ≡ false → (out-Command new).has_globals ≡ false
  still_local before = adds.globals ∙ ap₂ (λ (a b : Bool). a || b) before local
