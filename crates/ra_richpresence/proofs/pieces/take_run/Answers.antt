use Rattle.std.proofs.Common.{sym}
use Rattle.ra_richpresence.proofs.Turns.{running-more, run-goes_on}
use Rattle.ra_richpresence.proofs.pieces.take_run.Goals as goal

pub loop-cursor-preserved : goal.loop-cursor-preserved
loop-cursor-preserved c =
    rw c.in_ok-push.ensures.items (running-more c.args.cursor.now.rest.now c.loop-cursor.text.items
    c.loop-cursor.cursor.rest.now c.in_ok-take_character.field-0
    c.take_character.new.cursor.rest.now
    (run-goes_on c.loop-cursor.cursor.rest.now (sym c.loop-cursor-test.ensures)
    (sym c.if-not-is_at.ensures)) c.in_ok-take_character.ensures c.loop-cursor.invariant)
