use Rattle.std.proofs.Common.{◌∙◌, sym, ap, map, take, drop}
use Rattle.ra_richpresence.specs.Contents.{piece_contents}
use Rattle.ra_richpresence.proofs.ShownLemmas.{shown_by, map-more, left-next}
use Rattle.ra_richpresence.proofs.shown_line.behind_line.Goals as goal

pub loop-piece-preserved : goal.loop-piece-preserved
loop-piece-preserved c =
    let less = rw c.deref-piece-items.ensures.value at c.loop-piece-test.true in
    let is = rw c.deref-piece-items.ensures.value at c.piece-item.is in
    left-next (map piece_contents (take c.loop-piece.piece-index c.args.line.now.pieces.items))
    (piece_contents c.piece-item.result) c.args.values.now c.loop-piece.left.now
    c.behind_piece-left.result.now c.behind_piece-left.ensures c.loop-piece.invariant
    ∙ ap (λ ps. drop (shown_by ps) c.args.values.now) (sym (map-more piece_contents
    c.args.line.now.pieces.items c.loop-piece.piece-index c.piece-item.result less is))
