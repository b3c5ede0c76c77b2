use Rattle.std.proofs.Common.{refl}
use Rattle.ra_richpresence.specs.Contents.{line_contents}
use Rattle.ra_display.proofs.Counts.{bare_counts, made_short, made_counts}
use Rattle.ra_display.proofs.counted.counted_line.Goals as goal

pub shape-requires-clause-hits : goal.shape-requires-clause-hits
shape-requires-clause-hits c =
    (made_short c.args.pool.now c.new_line.new.pool (line_contents c.args.line.now) c.in_ok-run.run'
    c.requires.spelled c.in_ok-run.ensures c.requires.few).0

pub shape-requires-clause-numbers : goal.shape-requires-clause-numbers
shape-requires-clause-numbers c =
    (made_short c.args.pool.now c.new_line.new.pool (line_contents c.args.line.now) c.in_ok-run.run'
    c.requires.spelled c.in_ok-run.ensures c.requires.few).1

pub returns-then-is_bare : goal.returns-then-is_bare
returns-then-is_bare c =
    bare_counts c.args.pool.now (line_contents c.args.line.now) _ c.len.ensures.pool
    c.requires.spelled (c.if-is_bare.ensures refl) refl refl

pub returns : goal.returns
returns c =
    made_counts c.args.pool.now c.new_line.new.pool
    (line_contents c.args.line.now) c.in_ok-run.run' c.requires.spelled c.in_ok-run.ensures
    c.shape.result c.shape.ensures.hits c.shape.ensures.numbers
