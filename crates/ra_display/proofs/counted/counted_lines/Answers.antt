use Rattle.std.proofs.Common.{◌≡◌, ◌+◌, ◌++◌, ◌∷◌, [], map, take, arith}
use Rattle.ra_richpresence.specs.Contents.{line_contents}
use Rattle.ra_set.specs.Limits.{line_conditions}
use Rattle.ra_meaning.specs.ShownLines.{IsShownLine}
use Rattle.ra_member.proofs.GrowthLemmas.{taken_next, holds_at, weight_at}
use Rattle.ra_display.proofs.Counts.{counts_more, no_lines}
use Rattle.ra_display.proofs.counted.counted_lines.Goals as goal

pub loop-line-init : goal.loop-line-init
loop-line-init c = no_lines c.args.pool.now c.len.ensures.pool

pub counted_line-requires-clause-spelled : goal.counted_line-requires-clause-spelled
counted_line-requires-clause-spelled c =
    holds_at line_contents c.args.lines.now c.loop-line.line-index c.line-item.result
    c.loop-line-test.true c.line-item.is IsShownLine c.requires.spelled

pub counted_line-requires-clause-room : goal.counted_line-requires-clause-room
counted_line-requires-clause-room c =
    omega (
      arith,
      weight_at line_contents c.args.lines.now c.loop-line.line-index c.line-item.result
          c.loop-line-test.true c.line-item.is line_conditions,
      c.loop-line.invariant.grows.few,
      c.requires.room,
    )

pub counted_line-requires-clause-few : goal.counted_line-requires-clause-few
counted_line-requires-clause-few c =
    omega (
      arith,
      weight_at line_contents c.args.lines.now c.loop-line.line-index c.line-item.result
          c.loop-line-test.true c.line-item.is line_conditions,
      c.requires.few,
    )

pub overflow_add-hits : goal.overflow_add-hits
overflow_add-hits c =
    omega (
      arith,
      weight_at line_contents c.args.lines.now c.loop-line.line-index c.line-item.result
          c.loop-line-test.true c.line-item.is line_conditions,
      c.loop-line.invariant.few_hits,
      c.in_ok-kept.ensures.few_hits,
      c.requires.few,
    )

pub overflow_add-numbers : goal.overflow_add-numbers
overflow_add-numbers c =
    omega (
      arith,
      weight_at line_contents c.args.lines.now c.loop-line.line-index c.line-item.result
          c.loop-line-test.true c.line-item.is line_conditions,
      c.loop-line.invariant.few_numbers,
      c.in_ok-kept.ensures.few_numbers,
      c.requires.few,
    )

pub loop-line-preserved : goal.loop-line-preserved
loop-line-preserved c =
    let lines = c.args.lines.now in
    let k = c.loop-line.line-index in
    let line = c.line-item.result in
    let next : map line_contents (take (k + 1) lines) ≡ map line_contents (take k lines)
    ++ line_contents line ∷ [] =
    taken_next line_contents lines k line c.loop-line-test.true c.line-item.is in
    rw next (counts_more c.args.pool.now c.loop-line.pool c.counted_line.new.pool
    (map line_contents (take k lines)) (line_contents line) c.loop-line.hits c.loop-line.numbers
    c.in_ok-kept.kept c.loop-line.invariant c.in_ok-kept.ensures)
