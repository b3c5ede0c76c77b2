use Rattle.std.proofs.Common.{◌<◌, length}
use Rattle.ra_links.proofs.Calls.{before_below, after_below, unlink_free, unlink_holds}
use Rattle.ra_links.proofs.links.Links.unlink.Goals as goal

pub returns-then-list-clause-unlinked : goal.returns-then-list-clause-unlinked
returns-then-list-clause-unlinked c = unlink_free c.self.inside.firsts.items
    c.self.inside.holders.items c.self.inside.befores.items c.self.inside.afters.items
    c.self.invariant c.args.self.now c.self.view_is c.args.node c.index-list.result.now c.requires
    c.index-list.ensures c.if-list.true

pub note-requires : goal.note-requires
note-requires c = λ some.
    let below : c.index-before.result.now < length c.self.inside.afters.items =
    before_below c.self.inside.firsts.items c.self.inside.holders.items c.self.inside.befores.items
    c.self.inside.afters.items c.self.invariant c.args.self.now c.self.view_is c.args.node
    c.index-list.result.now c.index-before.result.now c.requires c.index-list.ensures
    c.if-list.false c.index-before.ensures some in
    rw c.deref_mut-2.ensures.value below

pub note-requires-2 : goal.note-requires-2
note-requires-2 c = λ some.
    let below : c.index-after.result.now < length c.self.inside.afters.items =
    after_below c.self.inside.firsts.items c.self.inside.holders.items c.self.inside.befores.items
    c.self.inside.afters.items c.self.invariant c.args.self.now c.self.view_is c.args.node
    c.index-list.result.now c.index-after.result.now c.requires c.index-list.ensures c.if-list.false
    c.index-after.ensures some in
    rw (c.deref_mut-3.ensures.value, c.self.invariant.befores_long) below

pub invariant_of-self : goal.invariant_of-self
invariant_of-self c =
    (unlink_holds c.self.inside.firsts.items c.self.inside.holders.items c.self.inside.befores.items
    c.self.inside.afters.items c.self.invariant c.args.self.now c.self.view_is c.args.node
    c.index-list.result.now c.index-before.result.now c.index-after.result.now
    c.note_first.new.firsts c.note-2.new.numbers c.note.new.numbers c.self.inside.firsts.len
    c.self.inside.befores.len c.self.inside.afters.len c.requires c.index-list.ensures
    c.if-list.false c.index-before.ensures c.index-after.ensures (rw c.deref_mut.ensures.value at
    c.note_first.ensures) (rw c.deref_mut-2.ensures.value at c.note.ensures) (rw
    c.deref_mut-3.ensures.value at c.note-2.ensures) c.self.inside.firsts.ok.0
    c.self.inside.befores.ok.0 c.self.inside.afters.ok.0).0

pub returns-clause-unlinked : goal.returns-clause-unlinked
returns-clause-unlinked c =
    (unlink_holds c.self.inside.firsts.items c.self.inside.holders.items c.self.inside.befores.items
    c.self.inside.afters.items c.self.invariant c.args.self.now c.self.view_is c.args.node
    c.index-list.result.now c.index-before.result.now c.index-after.result.now
    c.note_first.new.firsts c.note-2.new.numbers c.note.new.numbers c.self.inside.firsts.len
    c.self.inside.befores.len c.self.inside.afters.len c.requires c.index-list.ensures
    c.if-list.false c.index-before.ensures c.index-after.ensures (rw c.deref_mut.ensures.value at
    c.note_first.ensures) (rw c.deref_mut-2.ensures.value at c.note.ensures) (rw
    c.deref_mut-3.ensures.value at c.note-2.ensures) c.self.inside.firsts.ok.0
    c.self.inside.befores.ok.0 c.self.inside.afters.ok.0).1
