use Rattle.std.proofs.Common.{refl, ◌∙◌, subst}
use Rattle.std.proofs.lemmas.List.{get_or_default}
use Rattle.ra_condition.specs.Contents.{value_contents}
use Rattle.ra_member.specs.declared.value_run.ValueRun.{ValueRun}
use Rattle.ra_member.specs.Runs.{StepsValue}
use Rattle.ra_member.proofs.member.Member.step_value.Goals as goal

pub returns : goal.returns
returns c =
    let runs = c.args.self.now.values.items in
    let here = c.index_mut-run.result.now in
    record {
      run = c.step.new.self;
      is = c.step.ensures.run;
      steps = λ d.
          let same = c.index_mut-run.ensures.value ∙ get_or_default runs c.args.place here d c.requires.value.within in
          subst (λ (r : ValueRun). StepsValue c.args.table.now
          (value_contents c.args.text.now) r c.step.new.self) same c.step.ensures.steps;
      values = refl;
      tests = refl;
    }
