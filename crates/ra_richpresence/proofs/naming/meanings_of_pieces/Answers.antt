use Rattle.std.proofs.Common.{◌∙◌, [], ◌∷◌, ◌++◌, map, take, sym, ap}
use Rattle.ra_richpresence.specs.Meanings.{meanings_in}
use Rattle.ra_richpresence.specs.Parts.{piece_contents}
use Rattle.ra_richpresence.proofs.NameMaps.{meanings-append}
use Rattle.ra_richpresence.proofs.ShownLemmas.{map-more}
use Rattle.ra_richpresence.proofs.naming.meanings_of_pieces.Goals as goal

pub loop-piece-preserved : goal.loop-piece-preserved
loop-piece-preserved c = λ lookups formats finds.
    let before = map piece_contents (take c.loop-piece.piece-index c.args.pieces.now) in
    c.in_ok-put_meaning.ensures lookups formats finds
    ∙ ap (λ ms. ms ++ meanings_in lookups formats (piece_contents c.piece-item.result ∷ []))
    (c.loop-piece.invariant lookups formats finds)
    ∙ sym (ap (meanings_in lookups formats) (map-more piece_contents c.args.pieces.now
    c.loop-piece.piece-index c.piece-item.result c.loop-piece-test.true c.piece-item.is)
    ∙ meanings-append lookups formats before (piece_contents c.piece-item.result ∷ []))
