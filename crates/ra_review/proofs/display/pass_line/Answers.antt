use Rattle.std.proofs.Common.{sym}
use Rattle.ra_review.proofs.DisplayLemmas.{untested_stops}
use Rattle.ra_review.proofs.display.pass_line.Goals as goal

pub returns-else-is_at : goal.returns-else-is_at
returns-else-is_at c = untested_stops c.pass_pieces.result c.args.cursor.now.rest.now
    c.pass_pieces.new.cursor.rest.now (sym c.if-is_at.ensures) c.pass_pieces.ensures
