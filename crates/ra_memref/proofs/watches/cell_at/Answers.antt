use Rattle.std.proofs.Common.{◌<◌, not, length, ap, arith}
use Rattle.std.proofs.lemmas.Bool.{eq-eqb, ne_eqb}
use Rattle.ra_memref.proofs.Orders.{order_below, own_turn, row_order, row_turn}
use Rattle.ra_memref.proofs.watches.cell_at.Goals as goal

pub returns-then-this-ne0-clause-within : goal.returns-then-this-ne0-clause-within
returns-then-this-ne0-clause-within g c =
    let below = c.requires.within (ap not (ne_eqb g.row.ROW 0 c.if-this-ne0.true)) in
    let some : 0 < length c.args.order.now = omega (arith, below) in
    order_below c.args.count c.args.order.now (row_order c.args.count c.args.order.now some c.requires.order)
    c.args.turn 0 below

pub returns-then-this-ne0-clause-cell : goal.returns-then-this-ne0-clause-cell
returns-then-this-ne0-clause-cell g c =
    row_turn c.args.count c.args.order.now c.args.turn
    (c.requires.within (ap not (ne_eqb g.row.ROW 0 c.if-this-ne0.true)))

pub returns-else-this-ne0-clause-cell : goal.returns-else-this-ne0-clause-cell
returns-else-this-ne0-clause-cell g c =
    own_turn c.args.count c.args.order.now c.args.turn
    (c.requires.row (ap not (eq-eqb g.row.ROW 0 c.if-this-ne0.false))) c.requires.turn
