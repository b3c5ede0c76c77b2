use Rattle.ra_links.proofs.Calls.{answers_first, stands_once}
use Rattle.ra_links.proofs.links.Links.first.Goals as goal

pub returns-clause-first : goal.returns-clause-first
returns-clause-first c =
    answers_first c.self.inside.firsts.items c.self.inside.holders.items c.self.inside.befores.items
    c.self.inside.afters.items c.self.invariant c.args.self.now c.self.view_is c.args.list
    c.index.result.now c.some.result c.requires c.index.ensures c.some.ensures

pub returns-clause-once : goal.returns-clause-once
returns-clause-once c =
    stands_once c.self.inside.firsts.items c.self.inside.holders.items c.self.inside.befores.items
    c.self.inside.afters.items c.self.invariant c.args.self.now c.self.view_is
