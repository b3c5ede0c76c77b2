use Rattle.std.proofs.Common.{◌∙◌, ◌+◌, ◌∷◌, map, take, drop, sym, ap, subst}
use Rattle.std.proofs.lemmas.List.{drop_more}
use Rattle.ra_richpresence.specs.Contents.{piece_contents, script_contents}
use Rattle.ra_richpresence.specs.Meanings.{meanings_in}
use Rattle.ra_richpresence.proofs.MeantTexts.{begins-meaning, meanings-rest}
use Rattle.ra_richpresence.proofs.ShownLemmas.{PiecesSoFar, map-more, pieces-next}
use Rattle.ra_richpresence.proofs.script.Script.put_pieces.Goals as goal

pub put_piece-requires-clause-meanings : goal.put_piece-requires-clause-meanings
put_piece-requires-clause-meanings c =
    let script = script_contents c.args.self.now in
    let pieces = c.args.pieces.now in
    let k = c.loop-piece.piece-index in
    let parts = drop_more pieces k c.piece-item.result c.loop-piece-test.true
    ∙ ap (λ p. p ∷ drop (k + 1) pieces) (sym c.piece-item.is) in
    begins-meaning script (piece_contents c.piece-item.result)
    (map piece_contents (drop (k + 1) pieces)) c.loop-piece.meant.now
    (c.loop-piece.invariant.meant ∙ ap (λ ps. meanings_in script.lookups script.formats (map piece_contents ps)) parts)

pub loop-piece-preserved : goal.loop-piece-preserved
loop-piece-preserved c =
    let script = script_contents c.args.self.now in
    let pieces = c.args.pieces.now in
    let k = c.loop-piece.piece-index in
    let parts = drop_more pieces k c.piece-item.result c.loop-piece-test.true
    ∙ ap (λ p. p ∷ drop (k + 1) pieces) (sym c.piece-item.is) in
    record {
      text = subst (λ ps. PiecesSoFar script ps c.args.values.now c.args.out.now.items
          c.put_piece.new.out.items c.behind_piece-left.result.now)
          (sym (map-more piece_contents pieces k c.piece-item.result c.loop-piece-test.true c.piece-item.is))
          (pieces-next script (map piece_contents (take k pieces)) (piece_contents
          c.piece-item.result) c.args.values.now c.args.out.now.items c.loop-piece.out.items
          c.put_piece.new.out.items c.loop-piece.left.now c.behind_piece-left.result.now
          c.in_ok-put_piece.ensures c.behind_piece-left.ensures c.loop-piece.invariant.text);
      meant = meanings-rest script (piece_contents c.piece-item.result) (map piece_contents
          (drop (k + 1) pieces)) c.loop-piece.meant.now c.behind_meaning-meant.result.now
          (c.loop-piece.invariant.meant ∙ ap (λ ps. meanings_in script.lookups script.formats
          (map piece_contents ps)) parts) c.behind_meaning-meant.ensures;
    }
