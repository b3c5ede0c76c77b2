use Rattle.std.proofs.Common.{map, sym}
use Rattle.std.proofs.lemmas.List.{map-append}
use Rattle.ra_richpresence.specs.Contents.{piece_contents}
use Rattle.ra_richpresence.proofs.Turns.{pieces-start, macro-turn, macro-smaller, run-more, run-goes_on}
use Rattle.ra_richpresence.proofs.pieces.read_pieces.Goals as goal

pub loop-alloc-init : goal.loop-alloc-init
loop-alloc-init c = rw c.in_ok-pieces.ensures.items (pieces-start c.args.cursor.now.rest.now)

pub loop-alloc-smaller-in_ok-push : goal.loop-alloc-smaller-in_ok-push
loop-alloc-smaller-in_ok-push c = macro-smaller c.loop-alloc.cursor.rest.now
    (piece_contents c.in_ok-take_macro.field-0) c.take_macro.new.cursor.rest.now
    (sym c.if-is_at.ensures) c.in_ok-take_macro.ensures

pub loop-alloc-preserved-in_ok-push : goal.loop-alloc-preserved-in_ok-push
loop-alloc-preserved-in_ok-push c =
    rw (c.in_ok-push.ensures.items, map-append)
    (macro-turn (map piece_contents c.loop-alloc.pieces.items) c.loop-alloc.cursor.rest.now
    (piece_contents c.in_ok-take_macro.field-0) c.take_macro.new.cursor.rest.now _
    (sym c.if-is_at.ensures) c.in_ok-take_macro.ensures c.loop-alloc.invariant)

pub loop-alloc-preserved : goal.loop-alloc-preserved
loop-alloc-preserved c =
    rw (c.in_ok-push-2.ensures.items, map-append) (run-more
    (map piece_contents c.loop-alloc.pieces.items) c.loop-alloc.cursor.rest.now
    c.in_ok-text.text.items c.take_run.new.cursor.rest.now _
    (run-goes_on c.loop-alloc.cursor.rest.now (sym c.loop-alloc-test.ensures)
    (sym c.if-is_at.ensures)) c.in_ok-text.ensures c.loop-alloc.invariant)
