use Rattle.ra_links.proofs.Calls.{answers_place, stands_once}
use Rattle.ra_links.proofs.links.Links.place_of.Goals as goal

pub returns-clause-list : goal.returns-clause-list
returns-clause-list c =
    answers_place c.self.inside.firsts.items c.self.inside.holders.items c.self.inside.befores.items
    c.self.inside.afters.items c.self.invariant c.args.self.now c.self.view_is c.args.node
    c.index.result.now c.some.result c.requires c.index.ensures c.some.ensures

pub returns-clause-once : goal.returns-clause-once
returns-clause-once c =
    stands_once c.self.inside.firsts.items c.self.inside.holders.items c.self.inside.befores.items
    c.self.inside.afters.items c.self.invariant c.args.self.now c.self.view_is
