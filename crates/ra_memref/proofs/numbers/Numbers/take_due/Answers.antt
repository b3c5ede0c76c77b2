use Rattle.std.proofs.Common.{refl, slice_set, ◌∙◌, ap, arith, length, length-set, subst, sym}
use Rattle.ra_links.specs.FlatRows.{IsListed}
use Rattle.ra_indirect.specs.Pools.{node_at}
use Rattle.ra_memref.proofs.Passed.{takes_node}
use Rattle.ra_memref.proofs.PassLemmas.{node_within}
use Rattle.ra_memref.proofs.DueLemmas.{marked_seen, marked_unseen, idle_more}
use Rattle.ra_memref.proofs.numbers.Numbers.take_due.Goals as goal

pub follow-outcome-requires-clause-within : goal.follow-outcome-requires-clause-within
follow-outcome-requires-clause-within g c =
    node_within c.args.plan.now.nodes.now c.requires.plan.pool c.args.plan.now.slots.now c.requires.plan.laid
    c.args.number c.requires.here
    c.args.self.now c.requires.sized (node_at c.args.plan.now.nodes.now c.args.number) refl

pub set_all-requires : goal.set_all-requires
set_all-requires g c = λ k is. omega (
  arith,
  c.requires.plan.dependents.within k c.args.number (subst (IsListed k) c.row.ensures is),
  ap length c.put.ensures,
  length-set c.args.due.now c.args.number c.follow-outcome.result.again,
  c.requires.dues,
)

pub returns-then-outcome-clause-idle : goal.returns-then-outcome-clause-idle
returns-then-outcome-clause-idle g c =
    let e = c.follow-outcome.ensures in
    let bytes = g.I.Image.bytes c.args.image.now in
    idle_more c.args.plan.now.nodes.now c.requires.plan.pool c.args.plan.now.slots.now c.requires.plan.laid bytes
    c.args.number c.requires.here
    c.args.self.now c.follow-outcome.new.self c.requires.sized
    (takes_node (node_at c.args.plan.now.nodes.now c.args.number) c.args.plan.now.slots.now bytes c.args.number
    c.args.self.now
    c.follow-outcome.new.self e.taken)
    c.follow-outcome.result.again e.again c.args.due.now c.set_all.new.flags c.requires.dues
    (marked_seen c.args.plan.now.nodes.now c.args.number _ c.follow-outcome.result.again c.args.due.now
    c.set_all.new.flags c.args.plan.now.dependents.now c.requires.plan.dependents
    (rw (c.put.ensures, c.row.ensures) at c.set_all.ensures))
    c.requires.idle

pub returns-else-outcome-clause-idle : goal.returns-else-outcome-clause-idle
returns-else-outcome-clause-idle g c =
    let e = c.follow-outcome.ensures in
    let bytes = g.I.Image.bytes c.args.image.now in
    rw c.put.ensures (idle_more c.args.plan.now.nodes.now c.requires.plan.pool c.args.plan.now.slots.now
    c.requires.plan.laid bytes c.args.number
    c.requires.here c.args.self.now c.follow-outcome.new.self c.requires.sized
    (takes_node (node_at c.args.plan.now.nodes.now c.args.number) c.args.plan.now.slots.now bytes c.args.number
    c.args.self.now
    c.follow-outcome.new.self e.taken)
    c.follow-outcome.result.again e.again c.args.due.now
    (slice_set c.args.due.now c.args.number c.follow-outcome.result.again) c.requires.dues
    (marked_unseen c.args.plan.now.nodes.now c.args.number _ c.follow-outcome.result.again c.args.due.now
    (sym e.seen ∙ c.if-outcome.false))
    c.requires.idle)
