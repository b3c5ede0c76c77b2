use Rattle.std.proofs.Common.{◌≡◌, length, sym, ◌∙◌}
use Rattle.ra_account.proofs.RefillLemmas.{refilled}
use Rattle.ra_why.proofs.showing.read_frame.Goals as goal

pub returns-clause-truths : goal.returns-clause-truths
returns-clause-truths c =
    let room = c.args.room.now in
    let new = c.read_sides.new in
    let many : room.truths.len ≡ length new.truths = sym (c.read_sides.auto.truths ∙ c.deref_mut.ensures.len) in
    refilled room.truths.len new.truths room.truths.items many ∙ c.read_sides.ensures.truths

pub returns-clause-lefts : goal.returns-clause-lefts
returns-clause-lefts c =
    let room = c.args.room.now in
    let new = c.read_sides.new in
    let many : room.lefts.len ≡ length new.lefts = sym (c.read_sides.auto.lefts ∙ c.deref_mut-2.ensures.len) in
    refilled room.lefts.len new.lefts room.lefts.items many ∙ c.read_sides.ensures.lefts

pub returns-clause-rights : goal.returns-clause-rights
returns-clause-rights c =
    let room = c.args.room.now in
    let new = c.read_sides.new in
    let many : room.rights.len ≡ length new.rights = sym (c.read_sides.auto.rights ∙ c.deref_mut-3.ensures.len) in
    refilled room.rights.len new.rights room.rights.items many ∙ c.read_sides.ensures.rights
