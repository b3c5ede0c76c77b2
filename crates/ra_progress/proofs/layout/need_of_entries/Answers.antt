use Rattle.std.proofs.Common.{arith, ◌∙◌, sym}
use Rattle.ra_progress.proofs.Needs.{need_grows}
use Rattle.ra_progress.proofs.layout.need_of_entries.Goals as goal

pub loop-left-preserved : goal.loop-left-preserved
loop-left-preserved c = record {
  rest = sym (need_grows c.args.bytes.now c.loop-left.left c.loop-left.at c.loop-left.need
      c.from-size.result c.loop-left-test.true (c.from-size.ensures
      ∙ c.word_at.ensures) c.if-found-need.false) ∙ c.loop-left.invariant.rest;
  place = omega (arith, c.loop-left.invariant.place, c.loop-left-test.true);
  within = c.if-found-need.false;
}
