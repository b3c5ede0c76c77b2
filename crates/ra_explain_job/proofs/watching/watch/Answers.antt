use Rattle.std.proofs.Common.{◌∙◌, ap}
use Rattle.ra_jobs.proofs.Stays.{stays_after}
use Rattle.ra_explain_job.proofs.NextLemmas.{leads_on, ends_unlocked, ends_ended, ends_failed}
use Rattle.ra_explain_job.proofs.watching.watch.Goals as goal

pub returns-in_err-watch_next-clause-ends : goal.returns-in_err-watch_next-clause-ends
returns-in_err-watch_next-clause-ends g c = λ bytes m left told follows is.
    let to = c.loop.invariant.to bytes m left told follows is in
    ends_failed bytes c.args.recorder.now m left c.loop.reader c.loop.recorder to
    c.watch_next.new.reader c.watch_next.new.recorder c.in_err-watch_next.field-0.0
    c.from_residual.result c.from_residual.ensures.1
    (c.in_err-watch_next.ensures.next bytes to.moment to.rest
    (c.loop.invariant.stays.same.each c.loop.reader.name
    ∙ ap (g.F.Files.content c.args.files.now) c.loop.invariant.name ∙ told) to.follows to.left)

pub loop-preserved : goal.loop-preserved
loop-preserved g c = record {
  to = λ bytes m left told follows is.
      let to = c.loop.invariant.to bytes m left told follows is in
      leads_on bytes c.args.recorder.now m left c.loop.reader c.loop.recorder to
      c.watch_next.new.reader c.watch_next.new.recorder c.in_ok-watch_next.field-0 c.in-On.is
      (c.in_ok-watch_next.ensures.next bytes to.moment to.rest
      (c.loop.invariant.stays.same.each c.loop.reader.name
      ∙ ap (g.F.Files.content c.args.files.now) c.loop.invariant.name ∙ told) to.follows to.left);
  size = c.in_ok-watch_next.ensures.size;
  name = c.watch_next.ensures.name ∙ c.loop.invariant.name;
  trigger = c.watch_next.ensures.trigger ∙ c.loop.invariant.trigger;
  stays = stays_after _ _ _ c.loop.invariant.stays c.in_ok-watch_next.ensures.stays;
}

pub returns-in-Unlock-clause-ends : goal.returns-in-Unlock-clause-ends
returns-in-Unlock-clause-ends g c = λ bytes m left told follows is.
    let to = c.loop.invariant.to bytes m left told follows is in
    ends_unlocked bytes c.args.recorder.now m left c.loop.reader c.loop.recorder to
    c.watch_next.new.reader c.watch_next.new.recorder c.in_ok-watch_next.field-0 c.in-Unlock.is
    (c.in_ok-watch_next.ensures.next bytes to.moment to.rest
    (c.loop.invariant.stays.same.each c.loop.reader.name
    ∙ ap (g.F.Files.content c.args.files.now) c.loop.invariant.name ∙ told) to.follows to.left)

pub returns-in-End-clause-ends : goal.returns-in-End-clause-ends
returns-in-End-clause-ends g c = λ bytes m left told follows is.
    let to = c.loop.invariant.to bytes m left told follows is in
    ends_ended bytes c.args.recorder.now m left c.loop.reader c.loop.recorder to
    c.watch_next.new.reader c.watch_next.new.recorder c.in_ok-watch_next.field-0 c.in-End.is
    (c.in_ok-watch_next.ensures.next bytes to.moment to.rest
    (c.loop.invariant.stays.same.each c.loop.reader.name
    ∙ ap (g.F.Files.content c.args.files.now) c.loop.invariant.name ∙ told) to.follows to.left)
