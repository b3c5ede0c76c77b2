use Rattle.std.proofs.Common.{arith, ◌∙◌, ap, length, refl, sym, Some}
use Rattle.ra_jobs.proofs.Stays.{stays_after}
use Rattle.ra_why.specs.Watching.{trigger_in}
use Rattle.ra_why_job.proofs.NextLemmas.{ends_failed, ends_reached, leads_none, leads_on, may_step, watched_on}
use Rattle.ra_why_job.proofs.watching.watch.Goals as goal

pub loop-init : goal.loop-init
loop-init g c = record {
  to = λ bytes m left told follows is. leads_none bytes c.args.watcher.now m left c.args.reader.now follows is;
  size = c.requires.ready.size;
  name = refl;
  limit = c.requires.ready.limit;
  within = c.requires.ready.within;
  watches = record { trigger = refl; long = refl; watches = c.requires.ready.watches };
  stays = record {
    same = record { each = λ name. refl };
    reads = record { each = λ name. omega arith };
    puts = record { each = λ name. omega arith };
  };
}

pub watch_next-requires-clause-size : goal.watch_next-requires-clause-size
watch_next-requires-clause-size g c = c.loop.invariant.size ∙ ap (λ n. Some n) (sym c.loop.invariant.watches.long)

pub watch_next-requires-clause-watches : goal.watch_next-requires-clause-watches
watch_next-requires-clause-watches g c = may_step c.loop.reader.next c.loop.watcher
    c.loop.invariant.within c.loop.invariant.watches.watches

pub returns-in_err-watch_next-clause-ends : goal.returns-in_err-watch_next-clause-ends
returns-in_err-watch_next-clause-ends g c = λ bytes m left told follows is.
    let to = c.loop.invariant.to bytes m left told follows is in
    ends_failed bytes c.args.watcher.now m left c.loop.reader c.loop.watcher to
    c.watch_next.new.reader c.watch_next.new.watcher c.in_err-watch_next.field-0.0
    c.from_residual.result c.from_residual.ensures.1
    (c.in_err-watch_next.ensures.next bytes to.moment to.rest
    (c.loop.invariant.stays.same.each c.loop.reader.name
    ∙ ap (g.F.Files.content c.args.files.now) c.loop.invariant.name ∙ told) to.follows to.left)

pub loop-preserved : goal.loop-preserved
loop-preserved g c =
    let on = c.in_ok-watch_next.ensures.watches (trigger_in c.args.watcher.now)
    (length c.args.watcher.now.memory) c.loop.reader.next c.loop.invariant.watches in
    let further = c.in_ok-watch_next.ensures.further in
    record {
      to = λ bytes m left told follows is.
          let to = c.loop.invariant.to bytes m left told follows is in
          leads_on bytes c.args.watcher.now m left c.loop.reader c.loop.watcher to
          c.watch_next.new.reader c.watch_next.new.watcher (on.trigger
          ∙ sym c.loop.invariant.watches.trigger) c.in_ok-watch_next.field-0 c.if-branch.true
          (c.in_ok-watch_next.ensures.next bytes to.moment to.rest
          (c.loop.invariant.stays.same.each c.loop.reader.name ∙ ap
          (g.F.Files.content c.args.files.now) c.loop.invariant.name ∙ told) to.follows to.left);
      size = c.in_ok-watch_next.ensures.size ∙ c.loop.invariant.size;
      name = c.watch_next.ensures.name ∙ c.loop.invariant.name;
      limit = further.2 ∙ c.loop.invariant.limit;
      within = omega (arith, further.1, further.2, c.loop.invariant.limit);
      watches = watched_on _ _ c.loop.reader.next c.watch_next.new.reader.next c.watch_next.new.watcher further.0 on;
      stays = stays_after _ _ _ c.loop.invariant.stays c.in_ok-watch_next.ensures.stays;
    }

pub returns-clause-ends : goal.returns-clause-ends
returns-clause-ends g c = λ bytes m left told follows is.
    let to = c.loop.invariant.to bytes m left told follows is in
    ends_reached bytes c.args.watcher.now m left c.loop.reader c.loop.watcher to
    c.watch_next.new.reader c.watch_next.new.watcher c.in_ok-watch_next.field-0 c.if-branch.false
    (c.in_ok-watch_next.ensures.next bytes to.moment to.rest
    (c.loop.invariant.stays.same.each c.loop.reader.name
    ∙ ap (g.F.Files.content c.args.files.now) c.loop.invariant.name ∙ told) to.follows to.left)

pub returns-clause-watches : goal.returns-clause-watches
returns-clause-watches g c =
    let on = c.in_ok-watch_next.ensures.watches (trigger_in c.args.watcher.now)
    (length c.args.watcher.now.memory) c.loop.reader.next c.loop.invariant.watches in
    let further = c.in_ok-watch_next.ensures.further in
    watched_on _ _ c.loop.reader.next _ c.watch_next.new.watcher
    (omega (arith, further.0, further.1, further.2, c.loop.invariant.limit)) on
