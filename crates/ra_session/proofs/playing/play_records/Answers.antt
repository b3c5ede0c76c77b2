use Rattle.std.proofs.Common.{arith, ◌∙◌, ap}
use Rattle.ra_jobs.proofs.Stays.{stays_after}
use Rattle.ra_session.proofs.TraceLemmas.{stops_with, goes_on_with, ends_with, stands_with}
use Rattle.ra_session.proofs.playing.play_records.Goals as goal

pub returns-in_err-play_next-clause-printed : goal.returns-in_err-play_next-clause-printed
returns-in_err-play_next-clause-printed g c = λ bytes set o m earned left told stands is.
    let to = c.loop-text.invariant.to bytes set o m earned left told stands is in
    stops_with bytes set o m earned left c.loop-text.reader c.loop-text.player.runtime _ _ _ to
    c.in_err-play_next.field-0.0 c.from_residual.result c.from_residual.ensures.1 _
    (c.in_err-play_next.ensures.next bytes set o to.moment to.now_earned to.rest
    (c.loop-text.invariant.stays.same.each c.loop-text.reader.name
    ∙ ap (g.F.Files.content c.args.files.now) c.loop-text.invariant.name ∙ told) to.stands to.left)

pub loop-text-preserved : goal.loop-text-preserved
loop-text-preserved g c = record {
  to = λ bytes set o m earned left told stands is.
      let to = c.loop-text.invariant.to bytes set o m earned left told stands is in
      goes_on_with bytes set o m earned left c.loop-text.reader c.loop-text.player.runtime _ _ _ to
      c.play_next.new.reader c.play_next.new.player.runtime _ _ c.in_ok-play_next.field-0
      c.if-not-branch.true
      (c.in_ok-play_next.ensures.next bytes set o to.moment to.now_earned to.rest
      (c.loop-text.invariant.stays.same.each c.loop-text.reader.name ∙ ap
      (g.F.Files.content c.args.files.now) c.loop-text.invariant.name ∙ told) to.stands to.left);
  may = c.in_ok-play_next.ensures.may;
  name = c.play_next.ensures.name ∙ c.loop-text.invariant.name;
  stays = stays_after _ _ _ c.loop-text.invariant.stays c.in_ok-play_next.ensures.stays;
  later = omega (arith, c.play_next.ensures.later, c.loop-text.invariant.later);
}

pub returns-clause-printed : goal.returns-clause-printed
returns-clause-printed g c = λ bytes set o m earned left told stands is.
    let to = c.loop-text.invariant.to bytes set o m earned left told stands is in
    ends_with bytes set o m earned left c.loop-text.reader c.loop-text.player.runtime _ _ _ to
    c.play_next.new.reader c.play_next.new.player.runtime _ _ c.in_ok-play_next.field-0
    c.if-not-branch.false
    (c.in_ok-play_next.ensures.next bytes set o to.moment to.now_earned to.rest
    (c.loop-text.invariant.stays.same.each c.loop-text.reader.name
    ∙ ap (g.F.Files.content c.args.files.now) c.loop-text.invariant.name ∙ told) to.stands to.left)

pub returns-clause-ends : goal.returns-clause-ends
returns-clause-ends g c = λ bytes set o m earned left told stands is.
    let to = c.loop-text.invariant.to bytes set o m earned left told stands is in
    stands_with bytes set o m earned left c.loop-text.reader c.loop-text.player.runtime
    c.loop-text.player.slots.items (g.K.Sink.text c.args.out.now) (g.K.Sink.text c.loop-text.out) to
    c.play_next.new.reader c.play_next.new.player.runtime c.play_next.new.player.slots.items
    (g.K.Sink.text c.play_next.new.out) c.in_ok-play_next.field-0 c.if-not-branch.false
    (c.in_ok-play_next.ensures.next bytes set o to.moment to.now_earned to.rest
    (c.loop-text.invariant.stays.same.each c.loop-text.reader.name
    ∙ ap (g.F.Files.content c.args.files.now) c.loop-text.invariant.name ∙ told) to.stands to.left)
