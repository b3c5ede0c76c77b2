use Rattle.std.proofs.Common.{◌∙◌, length, map, sym, ap, subst}
use Rattle.ra_condition.specs.Chains.{places}
use Rattle.ra_chain.specs.Elaborates.{SpellsEach}
use Rattle.ra_chain.specs.Elaboration.{left_of, right_of}
use Rattle.ra_condition.specs.declared.setting.Setting.TheVariants.{InTrigger}
use Rattle.ra_condition.specs.Contents.{group_contents}
use Rattle.ra_chain.proofs.JoinLemmas.{all_join}
use Rattle.ra_lint.specs.Judging.{verdict_at}
use Rattle.ra_lint.proofs.judging.judge_group.Goals as goal

pub elaborate-requires-clause-joins : goal.elaborate-requires-clause-joins
elaborate-requires-clause-joins c = all_join InTrigger (group_contents c.args.group.now) c.requires.spelled

pub judge_planned-requires : goal.judge_planned-requires
judge_planned-requires c =
    let nodes = c.elaborate.new.pool in
    let plan = c.in_ok-plan.plan in
    let conditions = sym c.deref.ensures.value in
    record {
      pool = c.in_ok-plan.ensures.kept.pool;
      lefts = subst (λ cs. SpellsEach nodes plan.lefts.items (length cs) (left_of cs)) conditions
          c.in_ok-plan.ensures.lefts;
      rights = subst (λ cs. SpellsEach nodes plan.rights.items (length cs) (right_of cs)) conditions
          c.in_ok-plan.ensures.rights;
    }

pub returns : goal.returns
returns c = c.in_ok-verdicts.ensures ∙ ap (λ cs. map (verdict_at cs) (places cs)) c.deref.ensures.value
