use Rattle.std.proofs.Common.{◌≡◌, ◌+◌, ◌++◌, ◌∷◌, [], map, take, arith}
use Rattle.ra_richpresence.specs.Contents.{line_contents}
use Rattle.ra_set.specs.Limits.{line_conditions}
use Rattle.ra_meaning.specs.ShownLines.{IsShownLine}
use Rattle.ra_member.proofs.GrowthLemmas.{taken_next, holds_at, weight_at}
use Rattle.ra_display.proofs.NewLines.{lines_more}
use Rattle.ra_display.proofs.presence_run.new_lines.Goals as goal

pub new_line-requires-clause-spelled : goal.new_line-requires-clause-spelled
new_line-requires-clause-spelled c =
    holds_at line_contents c.args.lines.now c.loop-line.line-index c.line-item.result
    c.loop-line-test.true c.line-item.is IsShownLine c.requires.spelled

pub new_line-requires-clause-room : goal.new_line-requires-clause-room
new_line-requires-clause-room c =
    omega (
      arith,
      weight_at line_contents c.args.lines.now c.loop-line.line-index c.line-item.result
          c.loop-line-test.true c.line-item.is line_conditions,
      c.loop-line.invariant.grows.few,
      c.requires.room,
    )

pub loop-line-preserved : goal.loop-line-preserved
loop-line-preserved c =
    let lines = c.args.lines.now in
    let k = c.loop-line.line-index in
    let line = c.line-item.result in
    let next : map line_contents (take (k + 1) lines) ≡ map line_contents (take k lines)
    ++ line_contents line ∷ [] =
    taken_next line_contents lines k line c.loop-line-test.true c.line-item.is in
    let more = lines_more c.args.pool.now c.loop-line.pool c.new_line.new.pool
    (map line_contents (take k lines)) c.loop-line.runs.items
    (line_contents line) c.in_ok-run.run' c.loop-line.invariant c.in_ok-run.ensures in
    rw (next, c.in_ok-push.ensures.items) more
