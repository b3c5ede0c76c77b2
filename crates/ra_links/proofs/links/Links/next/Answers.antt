use Rattle.ra_links.proofs.Calls.{answers_no_next, answers_next}
use Rattle.ra_links.proofs.links.Links.next.Goals as goal

pub returns-then-index : goal.returns-then-index
returns-then-index c =
    answers_no_next c.self.inside.firsts.items c.self.inside.holders.items
    c.self.inside.befores.items c.self.inside.afters.items c.self.invariant c.args.self.now
    c.self.view_is c.args.node c.index.result.now c.requires c.index.ensures c.if-index.true

pub returns-else-index : goal.returns-else-index
returns-else-index c =
    answers_next c.self.inside.firsts.items c.self.inside.holders.items c.self.inside.befores.items
    c.self.inside.afters.items c.self.invariant c.args.self.now c.self.view_is c.args.node
    c.index.result.now c.index-else-index.result.now c.some.result c.requires c.index.ensures
    c.if-index.false c.index-else-index.ensures c.some.ensures
