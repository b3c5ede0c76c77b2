use Rattle.std.proofs.Common.{ap, ◌∙◌}
use Rattle.ra_trace.proofs.TraceRecords.{next_write, two_draws, no_write, no_draw}
use Rattle.ra_trace.proofs.made_trace.write_bytes.Goals as goal

pub loop-preserved : goal.loop-preserved
loop-preserved c =
    let i = c.loop.invariant in
    let first = c.draw.ensures in
    let second = c.draw-in-loop.ensures in
    let wrote = c.in_ok-write.ensures.ok in record {
      size = ap (λ w. w.size) wrote ∙ i.size;
      records = next_write c.args.count c.loop.counter _ _ _ _ _ _ _ _ c.loop-test.true wrote
          (c.from-at.ensures ∙ first.number) second.number first.state second.state i.records;
      draws = two_draws c.args.count c.loop.counter _ _ _ _ c.loop-test.true first.state second.state i.draws;
    }

pub returns : goal.returns
returns c = record {
  records = no_write c.args.count c.loop.counter _ _ _ c.loop-test.false c.loop.invariant.records;
  draws = no_draw c.args.count c.loop.counter _ _ c.loop-test.false c.loop.invariant.draws;
}
