use Rattle.std.proofs.Common.{arith}
use Rattle.ra_runtime.proofs.LazyNames.{lazy_copy, own_room}
use Rattle.ra_runtime.proofs.lazy_shape.LazyShape.whole.Goals as goal

pub make-requires : goal.make-requires
make-requires c =
    let is = c.in_ok-lazy.ensures in
    let own = own_room c.args.table.now c.args.self.now c.in_ok-lazy.lazy c.in_ok-shape.shape c.cells.result.now
    c.priors.result.now c.cells.ensures c.priors.ensures c.requires c.in_ok-shape.ensures is.shape is.cells is.priors
    is.few in
    record { nodes = omega (arith, is.room, c.node_count.ensures); room = own.room }

pub returns : goal.returns
returns c = λ whole lazy names.
    let is = c.in_ok-lazy.ensures in
    let own = own_room c.args.table.now c.args.self.now c.in_ok-lazy.lazy c.in_ok-shape.shape c.cells.result.now
    c.priors.result.now c.cells.ensures c.priors.ensures c.requires c.in_ok-shape.ensures is.shape is.cells is.priors
    is.few in
    (c.make.ensures whole (lazy_copy c.args.table.now c.args.self.now c.in_ok-lazy.lazy own whole lazy names
    is.unnamed) names).whole_now
