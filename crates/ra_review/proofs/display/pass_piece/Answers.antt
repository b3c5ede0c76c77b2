use Rattle.std.proofs.Common.{◌∷◌, [], sym}
use Rattle.ra_richpresence.specs.Contents.{Bytes, piece_contents}
use Rattle.ra_review.proofs.DisplayLemmas.{piece_character, piece_macro}
use Rattle.ra_review.proofs.display.pass_piece.Goals as goal

pub returns-in_ok-take_macro : goal.returns-in_ok-take_macro
returns-in_ok-take_macro c = (
  piece_contents c.in_ok-take_macro.field-0,
  piece_macro c.args.cursor.now.rest.now (piece_contents c.in_ok-take_macro.field-0)
      c.take_macro.new.cursor.rest.now (sym c.if-is_at.ensures) c.in_ok-take_macro.ensures,
)

pub returns-in_ok-take_character : goal.returns-in_ok-take_character
returns-in_ok-take_character c = (
  Bytes (c.in_ok-take_character.field-0 ∷ []),
  piece_character c.args.cursor.now.rest.now c.in_ok-take_character.field-0
      c.take_character.new.cursor.rest.now (sym c.if-is_at.ensures) c.in_ok-take_character.ensures,
)
