use Rattle.std.proofs.Common.{sym}
use Rattle.std.proofs.lemmas.Result.{err_from_is_err_and}
use Rattle.ra_richpresence.proofs.Texts.{smaller-piece}
use Rattle.ra_review.proofs.FrontLemmas.{is_nothing_left, not_empty}
use Rattle.ra_review.proofs.DisplayLemmas.{passes_more, passes_none, piece_fault, pieces_stop_whole}
use Rattle.ra_review.proofs.display.pass_pieces.Goals as goal

pub loop-alloc-init : goal.loop-alloc-init
loop-alloc-init c = passes_none c.args.cursor.now.rest.now

pub loop-alloc-smaller : goal.loop-alloc-smaller
loop-alloc-smaller c = smaller-piece c.loop-alloc.cursor.rest.now c.in_ok-pass_piece.ensures.0
    c.pass_piece.new.cursor.rest.now c.in_ok-pass_piece.ensures.1

pub loop-alloc-preserved : goal.loop-alloc-preserved
loop-alloc-preserved c = passes_more c.args.cursor.now.rest.now c.loop-alloc.cursor.rest.now
    c.pass_piece.new.cursor.rest.now c.in_ok-pass_piece.ensures.0
    (not_empty c.loop-alloc.cursor.rest.now (sym c.loop-alloc-test.ensures))
    c.in_ok-pass_piece.ensures.1 c.loop-alloc.invariant

pub returns-in_err-pass_piece : goal.returns-in_err-pass_piece
returns-in_err-pass_piece c = let p = err_from_is_err_and c.from_residual.result c.from_residual.ensures.1 in
    rw (p.1, p.2) (piece_fault c.in_err-pass_piece.field-0.0 c.args.cursor.now.rest.now
    c.loop-alloc.cursor.rest.now c.pass_piece.new.cursor.rest.now
    (not_empty c.loop-alloc.cursor.rest.now (sym c.loop-alloc-test.ensures))
    c.in_err-pass_piece.ensures c.loop-alloc.invariant)

pub returns : goal.returns
returns c =
    let none = is_nothing_left c.loop-alloc.cursor.rest.now (sym c.loop-alloc-test.ensures) in
    (pieces_stop_whole c.args.cursor.now.rest.now c.loop-alloc.cursor.rest.now none c.loop-alloc.invariant, none)
