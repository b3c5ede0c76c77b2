use Rattle.std.proofs.Common.{ap, ◌∙◌, length}
use Rattle.ra_condition.specs.Contents.{trigger_contents, groups_of}
use Rattle.ra_trigger.specs.Steps.{step}
use Rattle.ra_member.proofs.LaidLemmas.{laid_fills, laid_again, length_read, lefts_read, truths_read}
use Rattle.ra_member.proofs.trigger_run.TriggerRun.step_in.Goals as goal

pub fill-requires-clause-valued : goal.fill-requires-clause-valued
fill-requires-clause-valued c = laid_fills _ _ _ c.requires.run.laid

pub step-requires-clause-truths : goal.step-requires-clause-truths
step-requires-clause-truths c =
    ap length c.reads-reads.ensures.truths ∙ (length_read _ _ _ _ _ _ c.requires.run.laid c.fill.ensures).0

pub step-requires-clause-lefts : goal.step-requires-clause-lefts
step-requires-clause-lefts c =
    ap length c.reads-reads.ensures.lefts ∙ (length_read _ _ _ _ _ _ c.requires.run.laid c.fill.ensures).1

pub returns-clause-run : goal.returns-clause-run
returns-clause-run c = record {
  laid = laid_again _ _ _ _ _ _ c.requires.run.laid c.fill.ensures;
  hits = c.step.ensures.count ∙ c.requires.run.hits;
}

pub returns-clause-steps : goal.returns-clause-steps
returns-clause-steps c = record {
  kept = λ start h has.
      let t = trigger_contents c.args.text.now in
      let truths = c.reads-reads.ensures.truths
      ∙ truths_read _ _ start h has (groups_of t) _ _ _ c.requires.run.laid c.fill.ensures in
      let lefts = c.reads-reads.ensures.lefts
      ∙ lefts_read _ _ start h has (groups_of t) _ _ _ c.requires.run.laid c.fill.ensures in
      c.step.ensures.kept ∙ (λ i. step t (truths i) (lefts i) c.args.self.now.trigger);
  told = c.step.ensures.change;
}
