use Rattle.std.proofs.Common.{sym, arith}
use Rattle.ra_review.proofs.FrontLemmas.{front_ends, front_next, front_opens, is_nothing_left, line_is, not_empty}
use Rattle.ra_review.proofs.FrontLemmas.{one_line}
use Rattle.ra_review.proofs.front.review_front.Goals as goal

pub add_line-requires-clause-one : goal.add_line-requires-clause-one
add_line-requires-clause-one c =
    let rest = c.loop-rest.rest.now in
    let s = c.split_line.ensures in
    let line = line_is rest s.first c.split_at.result.0.now c.split_line.result.1.now s.parts
    c.split_at.ensures.front in
    one_line rest c.split_line.result.0.now c.split_line.result.1.now c.split_at.result.0.now s
    (not_empty rest (sym c.loop-rest-test.ensures)) line

pub returns-then-opens_script : goal.returns-then-opens_script
returns-then-opens_script c =
    let rest = c.loop-rest.rest.now in
    let s = c.split_line.ensures in
    let line = line_is rest s.first c.split_at.result.0.now c.split_line.result.1.now s.parts
    c.split_at.ensures.front in
    front_opens c.args.bytes.now rest c.split_line.result.0.now c.split_line.result.1.now
    c.split_at.result.0.now c.loop-rest.report c.add_line.new.self
    s (not_empty rest (sym c.loop-rest-test.ensures)) line c.loop-rest.invariant.0
    c.in_ok-add_line.ensures (sym c.if-opens_script.ensures)

pub loop-rest-preserved : goal.loop-rest-preserved
loop-rest-preserved c =
    let rest = c.loop-rest.rest.now in
    let s = c.split_line.ensures in
    let line = line_is rest s.first c.split_at.result.0.now c.split_line.result.1.now s.parts
    c.split_at.ensures.front in
    let shorter = s.shorter (not_empty rest (sym c.loop-rest-test.ensures)) in (
      front_next c.args.bytes.now rest c.split_line.result.0.now c.split_line.result.1.now
          c.split_at.result.0.now c.loop-rest.report c.add_line.new.self
          s (not_empty rest (sym c.loop-rest-test.ensures)) line c.loop-rest.invariant.0
          c.in_ok-add_line.ensures (sym c.if-opens_script.ensures),
      omega (arith, shorter, c.loop-rest.invariant.1),
    )

pub returns : goal.returns
returns c = front_ends c.args.bytes.now c.loop-rest.rest.now c.loop-rest.report
    (is_nothing_left c.loop-rest.rest.now (sym c.loop-rest-test.ensures)) c.loop-rest.invariant.0
