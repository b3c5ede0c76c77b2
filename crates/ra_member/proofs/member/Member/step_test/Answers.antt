use Rattle.std.proofs.Common.{refl, ◌∙◌, subst}
use Rattle.std.proofs.lemmas.List.{get_or_default}
use Rattle.ra_condition.specs.Contents.{trigger_contents}
use Rattle.ra_member.specs.declared.trigger_run.TriggerRun.{TriggerRun}
use Rattle.ra_member.specs.Runs.{StepsTest}
use Rattle.ra_member.proofs.member.Member.step_test.Goals as goal

pub returns : goal.returns
returns c =
    let runs = c.args.self.now.tests.items in
    let here = c.index_mut-run.result.now in
    record {
      run = c.truth.new.self;
      is = c.truth.ensures.run;
      steps = λ d.
          let same = c.index_mut-run.ensures.value ∙ get_or_default runs c.args.place here d c.requires.test.within in
          subst (λ (r : TriggerRun). StepsTest c.args.table.now (trigger_contents c.args.text.now) r
          c.truth.new.self c.truth.result) same c.truth.ensures.steps;
      tests = refl;
      values = refl;
    }
