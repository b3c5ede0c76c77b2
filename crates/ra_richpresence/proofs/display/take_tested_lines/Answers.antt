use Rattle.ra_richpresence.specs.Following.{bytes_of}
use Rattle.ra_richpresence.specs.Reading.{left_only, tested_line_of, tested_lines_at}
use Rattle.ra_richpresence.proofs.Turns.{run-starts}
use Rattle.ra_richpresence.proofs.display.take_tested_lines.Goals as goal

pub loop-lines-init : goal.loop-lines-init
unfolding tested_lines_at
loop-lines-init c = rw c.new-tested.ensures.items
    (run-starts (left_only tested_line_of) (bytes_of c.args.lines.now.rest.now))
