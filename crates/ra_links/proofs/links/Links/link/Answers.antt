use Rattle.std.proofs.Common.{◌<◌, length, length-set}
use Rattle.ra_links.proofs.Calls.{first_below, link_holds}
use Rattle.ra_links.proofs.links.Links.link.Goals as goal

pub note-requires : goal.note-requires
note-requires c = λ some.
    let below : c.index-first.result.now < length c.self.inside.afters.items =
    first_below c.self.inside.firsts.items c.self.inside.holders.items c.self.inside.befores.items
    c.self.inside.afters.items c.self.invariant c.args.self.now c.self.view_is c.args.list
    c.index-first.result.now c.requires.list c.index-first.ensures some in
    rw (c.deref_mut.ensures.value, length-set, c.self.invariant.befores_long) below

pub invariant_of-self : goal.invariant_of-self
invariant_of-self c =
    (link_holds c.self.inside.firsts.items c.self.inside.holders.items c.self.inside.befores.items
    c.self.inside.afters.items c.self.invariant c.args.self.now c.self.view_is c.args.list
    c.args.node c.index-first.result.now c.note.new.numbers c.self.inside.befores.len
    c.requires.list c.requires.node c.requires.free c.index-first.ensures
    (rw c.deref_mut.ensures.value at c.note.ensures) c.self.inside.befores.ok.0).0

pub returns-clause-linked : goal.returns-clause-linked
returns-clause-linked c =
    (link_holds c.self.inside.firsts.items c.self.inside.holders.items c.self.inside.befores.items
    c.self.inside.afters.items c.self.invariant c.args.self.now c.self.view_is c.args.list
    c.args.node c.index-first.result.now c.note.new.numbers c.self.inside.befores.len
    c.requires.list c.requires.node c.requires.free c.index-first.ensures
    (rw c.deref_mut.ensures.value at c.note.ensures) c.self.inside.befores.ok.0).1
