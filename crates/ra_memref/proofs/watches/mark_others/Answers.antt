use Rattle.std.proofs.Common.{◌≡◌, ◌≤◌, ◌<◌, ◌||◌, true, if◌then◌else◌, length, get_or, drop, ap, ap₂, ◌∙◌, sym, arith}
use Rattle.std.specs.List.{sum_by}
use Rattle.std.proofs.lemmas.List.{drop_all}
use Rattle.std.proofs.lemmas.List.Sums.{sum_by-drop_more}
use Rattle.ra_memref.specs.Marking.{is_other}
use Rattle.ra_memref.specs.Watches.{order_by, one_unmarked}
use Rattle.ra_memref.proofs.Orders.{order_long, order_unmarked, row_order, turn_mark, visited_more, visited_all}
use Rattle.ra_memref.proofs.watches.mark_others.Goals as goal

pub cell_at-cell-requires-clause-within : goal.cell_at-cell-requires-clause-within
cell_at-cell-requires-clause-within g c = λ row.
    let n = length c.args.cells.now.places.now in
    let long = order_long n c.args.order.now (row_order n c.args.order.now (c.requires.row_too row) c.requires.order) in
    omega (arith, long, c.loop-turn-test.true)

pub mark_other-requires-clause-may_be : goal.mark_other-requires-clause-may_be
mark_other-requires-clause-may_be g c = λ none.
    let n = length c.args.cells.now.places.now in
    let order = order_by n c.args.order.now in
    let here = c.cell_at-cell.ensures in
    let long = order_long n order c.requires.order in
    let turn : c.loop-turn.turn < length order = omega (arith, c.loop-turn-test.true, long) in
    ap (λ k. get_or c.loop-turn.marks k true) here.cell
    ∙ turn_mark n order c.requires.order c.args.marks.now c.loop-turn.marks _
    c.loop-turn.turn turn c.loop-turn.invariant.visited
    ∙ c.requires.some none (get_or order c.loop-turn.turn 0) (omega arith)
    (omega (arith, here.within, here.cell, c.requires.places))

pub loop-turn-preserved : goal.loop-turn-preserved
loop-turn-preserved g c =
    let n = length c.args.cells.now.places.now in
    let order = order_by n c.args.order.now in
    let turn = c.loop-turn.turn in
    let here = c.cell_at-cell.ensures.cell in
    let e = rw here at c.mark_other.ensures in
    let old = c.args.marks.now in
    let long = order_long n order c.requires.order in
    let less : turn < length order = omega (arith, c.loop-turn-test.true, long) in
    let same = turn_mark n order c.requires.order old c.loop-turn.marks _ turn less c.loop-turn.invariant.visited in
    record {
      visited = visited_more n order c.requires.order old c.loop-turn.marks _ turn less
          c.loop-turn.invariant.visited c.mark_other.new.marks e.long
          (e.here ∙ ap₂ ◌||◌ same
          (ap (λ image. is_other image (get_or c.args.cells.now.widths.now (get_or order turn 0) 0)
          (get_or c.args.cells.now.places.now (get_or order turn 0) 0)
          (get_or c.args.numbers.now (get_or order turn 0) 0)) c.loop-turn.invariant.bytes))
          e.others;
      reads = (
          let rest = sum_by-drop_more (one_unmarked old) order turn 0 less in
          let one : one_unmarked c.loop-turn.marks (get_or order turn 0) ≡ one_unmarked old (get_or order turn 0) = ap
          (λ b. if b then 0 else 1) same in
          omega (arith, c.loop-turn.invariant.reads, e.reads, rest, one));
      bytes = e.bytes ∙ c.loop-turn.invariant.bytes;
      counter = e.counter ∙ c.loop-turn.invariant.counter;
    }

pub returns-clause-marked : goal.returns-clause-marked
returns-clause-marked g c = λ k below.
    let n = length c.args.cells.now.places.now in
    let order = order_by n c.args.order.now in
    let long = order_long n order c.requires.order in
    let end : length order ≤ c.loop-turn.turn = omega (arith, c.loop-turn-test.false, long) in
    visited_all n order c.requires.order c.args.marks.now c.loop-turn.marks _
    c.loop-turn.turn end c.loop-turn.invariant.visited k (omega (arith, below, c.requires.places))

pub returns-clause-reads : goal.returns-clause-reads
returns-clause-reads g c =
    let n = length c.args.cells.now.places.now in
    let order = order_by n c.args.order.now in
    let long = order_long n order c.requires.order in
    let end : length order ≤ c.loop-turn.turn = omega (arith, c.loop-turn-test.false, long) in
    let none : sum_by (one_unmarked c.args.marks.now) (drop c.loop-turn.turn order) ≡ 0 = ap
    (sum_by (one_unmarked c.args.marks.now)) (drop_all c.loop-turn.turn order end) in
    let all = order_unmarked n order c.requires.order c.args.marks.now (sym c.requires.places) in
    omega (arith, c.loop-turn.invariant.reads, none, all)
