use Rattle.std.proofs.Common.{◌∙◌, ◌+◌, ◌∷◌, map, drop, sym, ap}
use Rattle.std.proofs.lemmas.List.{drop_more}
use Rattle.ra_richpresence.specs.Contents.{piece_contents, script_contents}
use Rattle.ra_richpresence.specs.Meanings.{meanings_in}
use Rattle.ra_richpresence.proofs.MeantTexts.{begins-meaning, meanings-rest}
use Rattle.ra_review.specs.Scripts.{piece_notices}
use Rattle.ra_review.proofs.MacroLemmas.{pieces_more}
use Rattle.ra_review.proofs.macros.put_pieces.Goals as goal

pub put_piece-requires : goal.put_piece-requires
put_piece-requires c =
    let script = script_contents c.args.script.now in
    let pieces = c.args.pieces.now in
    let k = c.loop-piece.piece-index in
    let parts = drop_more pieces k c.piece-item.result c.loop-piece-test.true
    ∙ ap (λ p. p ∷ drop (k + 1) pieces) (sym c.piece-item.is) in
    begins-meaning script (piece_contents c.piece-item.result)
    (map piece_contents (drop (k + 1) pieces)) c.loop-piece.meant.now
    (c.loop-piece.invariant.meant ∙ ap (λ ps. meanings_in script.lookups script.formats (map piece_contents ps)) parts)

pub loop-piece-preserved : goal.loop-piece-preserved
loop-piece-preserved c =
    let script = script_contents c.args.script.now in
    let pieces = c.args.pieces.now in
    let k = c.loop-piece.piece-index in
    let parts = drop_more pieces k c.piece-item.result c.loop-piece-test.true
    ∙ ap (λ p. p ∷ drop (k + 1) pieces) (sym c.piece-item.is) in
    record {
      added = pieces_more (piece_notices script c.args.number) pieces k c.piece-item.result
          c.loop-piece-test.true c.piece-item.is
          c.args.notices.now c.loop-piece.notices c.put_piece.new.notices
          c.loop-piece.invariant.added c.in_ok-put_piece.ensures;
      meant = meanings-rest script (piece_contents c.piece-item.result) (map piece_contents
          (drop (k + 1) pieces)) c.loop-piece.meant.now c.behind_meaning-meant.result.now
          (c.loop-piece.invariant.meant ∙ ap (λ ps. meanings_in script.lookups script.formats
          (map piece_contents ps)) parts) c.behind_meaning-meant.ensures;
    }
