use Rattle.std.proofs.Common.{◌≡◌, map, take, drop}
use Rattle.ra_richpresence.specs.Contents.{piece_contents, script_contents}
use Rattle.ra_richpresence.specs.Meanings.{meanings_in}
use Rattle.ra_richpresence.proofs.ShownLemmas.{PiecesSoFar}
use Rattle.ra_richpresence.proofs.script.Script.put_pieces.Given as goal

abbrev pub invariant-loop-piece : goal.invariant-loop-piece
invariant-loop-piece l = record {
  text : PiecesSoFar (script_contents l.self)
      (map piece_contents (take l.piece-index l.pieces)) l.values l.fn.out.items l.out.items l.left;
  meant : l.meant ≡ meanings_in (script_contents l.self).lookups (script_contents l.self).formats
      (map piece_contents (drop l.piece-index l.pieces));
}
