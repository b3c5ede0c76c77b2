use Rattle.std.proofs.Common.{◌≡◌, ◌++◌, ℕ, List, map, take, drop}
use Rattle.std.specs.List.{flat_map}
use Rattle.ra_richpresence.specs.Contents.{piece_contents, script_contents}
use Rattle.ra_richpresence.specs.Meanings.{meanings_in}
use Rattle.ra_review.specs.Reporting.{AreEntries}
use Rattle.ra_review.specs.Scripts.{piece_notices}
use Rattle.ra_review.proofs.macros.put_pieces.Given as goal

-- the notices on the pieces so far, and the meanings of those that are left
abbrev pub invariant-loop-piece : goal.invariant-loop-piece
invariant-loop-piece l = record {
  added : (entries : List (List ℕ)) → AreEntries l.initial.notices entries
      → AreEntries l.notices (entries ++ flat_map (piece_notices
      (script_contents l.script) l.number) (map piece_contents (take l.piece-index l.pieces)));
  meant : l.meant ≡ meanings_in (script_contents l.script).lookups
      (script_contents l.script).formats (map piece_contents (drop l.piece-index l.pieces));
}
