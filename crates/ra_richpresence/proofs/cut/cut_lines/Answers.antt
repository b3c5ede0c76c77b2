use Rattle.ra_richpresence.proofs.Splits.{something-left}
use Rattle.ra_richpresence.proofs.cut.cut_lines.Goals as goal

pub invariant_of-push : goal.invariant_of-push
invariant_of-push c =
    record {
      left = something-left c.split_line.result.0.now c.left_of-bytes.result.now
          c.split_line.ensures.clear c.left_of-bytes.ensures c.if-not-is_empty.ensures;
    }
