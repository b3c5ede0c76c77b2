use Rattle.std.proofs.Common.{◌≡◌, ap, ◌∙◌}
use Rattle.std.proofs.lemmas.Result.{IfOk-weaker}
use Rattle.ra_trace.proofs.TraceRecords.{next_frame, no_frame, made_whole}
use Rattle.ra_trace.proofs.made_trace.make_trace.Goals as goal

pub loop-frame-preserved : goal.loop-frame-preserved
loop-frame-preserved c =
    let i = c.loop-frame.invariant in
    let wrote = c.in_ok-write_bytes.ensures in
    let behind : c.write_behind_frame.new.writer.size ≡ c.frame.new.self.size =
    ap (λ w. w.size) c.in_ok-write_behind_frame.ensures in
    let framed : c.frame.new.self.size ≡ c.write_bytes.new.writer.size = ap (λ w. w.size) c.in_ok-frame.ensures.ok in
    let before : c.write_bytes.new.writer.size ≡ c.loop-frame.writer.size = ap (λ w. w.size) wrote.records in record {
      size = behind ∙ framed ∙ before ∙ i.size;
      records = next_frame 4096 c.loop-frame.frame _ _ _ _ _ _ _ c.loop-frame-test.true
          wrote.records c.in_ok-frame.ensures.ok c.in_ok-write_behind_frame.ensures wrote.draws
          i.records;
    }

pub returns : goal.returns
returns c =
    let all = no_frame 4096 c.loop-frame.frame _ _ _ c.loop-frame-test.false c.loop-frame.invariant.records in
    IfOk-weaker c.finish.result _ _ (λ bytes is. made_whole c.args.number _ _ _ bytes.items
    c.new-draws.ensures c.in_ok-writer.ensures.ok is all) c.finish.ensures.ok
