use Rattle.std.proofs.Common.{map, take, sym}
use Rattle.ra_richpresence.specs.Contents.{piece_contents}
use Rattle.ra_member.proofs.GrowthLemmas.{taken_next}
use Rattle.ra_display.proofs.Counts.{none_more}
use Rattle.ra_display.proofs.counted.are_texts.Goals as goal

pub loop-piece-preserved : goal.loop-piece-preserved
loop-piece-preserved c =
    let pieces = c.args.pieces.now in
    let k = c.loop-piece.piece-index in
    let piece = c.piece-item.result in
    rw (taken_next piece_contents pieces k piece c.loop-piece-test.true c.piece-item.is)
    (none_more (map piece_contents (take k pieces)) (piece_contents piece) c.loop-piece.invariant
    (sym c.if-is_macro.ensures))
