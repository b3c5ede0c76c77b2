use Rattle.ra_review.proofs.DisplayLemmas.{line_place}
use Rattle.ra_review.proofs.display.display_place.Goals as goal

pub returns-in-Ok : goal.returns-in-Ok
returns-in-Ok c = line_place c.args.line.now c.new-cursor.result.rest.now
    c.pass_line.new.cursor.rest.now c.place.result c.new-cursor.ensures c.place.ensures
    c.in-Ok.ensures

pub returns-in-Err-Stop : goal.returns-in-Err-Stop
returns-in-Err-Stop c = line_place c.args.line.now c.new-cursor.result.rest.now
    c.pass_line.new.cursor.rest.now c.place-in-Err-Stop.result c.new-cursor.ensures
    c.place-in-Err-Stop.ensures
    (rw c.in-Err-Stop.field-0-is at c.in-Err-Stop.ensures)
