use Rattle.std.proofs.Common.{arith, ◌≡◌, ◌<◌, ◌-◌, length, ap}
use Rattle.ra_explain.specs.RowLists.{behind_each, rows_from}
use Rattle.ra_explain.proofs.IndexLemmas.{one_fewer, none_first}
use Rattle.ra_explain.proofs.indices.count_from.Goals as goal

pub loop-at-preserved : goal.loop-at-preserved
loop-at-preserved c =
    let links = c.args.links.now in
    let at = c.loop-at.at in
    let some : 0 < at = omega (arith, c.loop-at-test.true) in
    let below : at - 1 < length links = omega (arith, some, c.loop-at.invariant.there) in
    let named = c.requires.earlier (at - 1) below in
    record {
      there = omega (arith, named, below);
      few = omega (arith, named, some, c.loop-at.invariant.few);
      rows = λ width truths. let one = one_fewer width truths links at c.requires.earlier some
          c.loop-at.invariant.there in omega (arith, one, c.loop-at.invariant.rows width truths);
    }

pub returns : goal.returns
returns c = λ width truths.
    let none : c.loop-at.at ≡ 0 = omega (arith, c.loop-at-test.false) in
    omega (
      arith,
      c.loop-at.invariant.rows width truths,
      ap (λ n. length (rows_from (behind_each width truths c.args.links.now) n)) none,
      ap length (none_first width truths c.args.links.now),
    )
