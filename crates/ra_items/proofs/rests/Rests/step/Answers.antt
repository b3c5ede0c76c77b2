use Rattle.std.proofs.Common.{length, map, refl, sym, subst}
use Rattle.ra_memref.specs.Flags.{NoneSet, IsFirstSet}
use Rattle.ra_schedule.specs.Schedules.{ScheduleSeen}
use Rattle.ra_schedule.proofs.MembersRest.Frames.{may_begin}
use Rattle.ra_set.specs.Contents.{item_contents}
use Rattle.ra_items.specs.declared.rests.Rests.{Rests}
use Rattle.ra_items.specs.Rests.{HasPlace, StepsItems}
use Rattle.ra_items.proofs.RestSteps.{IsFar, far_begins, far_on, items_stepped, place_here}
use Rattle.ra_items.proofs.rests.Rests.step.Goals as goal

-- the rests with another schedule
abbrev with_schedule : Rests → ScheduleSeen → Rests
with_schedule rests schedule =
    record { each = rests.each; schedule = schedule; stepped = rests.stepped; count = rests.count; rooms = rests.rooms }

pub begin-crowded-requires : goal.begin-crowded-requires
begin-crowded-requires c =
    may_begin c.args.table.now c.requires.rests.values c.args.self.now.schedule
    c.requires.rests.changed c.requires.rests.are.heard c.requires.sampled

pub loop-place-init : goal.loop-place-init
loop-place-init c =
    far_begins c.args.table.now c.requires.frame
    (map item_contents c.args.items.now) c.args.runs.now c.args.self.now c.begin-crowded.new.self
    c.requires.rests.values c.requires.rests.are c.requires.runs c.begin-crowded.ensures c.close.new.self

pub step_at-requires-clause-place : goal.step_at-requires-clause-place
step_at-requires-clause-place c =
    let contents = map item_contents c.args.items.now in
    let p = c.loop-place in
    subst (λ (q : ScheduleSeen). HasPlace contents (with_schedule p.self q) c.in-Some.place)
    (sym c.next_due.ensures.same)
    (place_here c.args.table.now c.requires.frame contents c.args.runs.now c.args.self.now
    c.begin-crowded.new.self c.requires.rests.values c.requires.rests.are c.requires.runs c.begin-crowded.ensures
    p.runs p.self p.at p.invariant c.in-Some.place c.in-Some.ensures.first)

pub loop-place-preserved : goal.loop-place-preserved
loop-place-preserved c =
    let contents = map item_contents c.args.items.now in
    let p = c.loop-place in
    let same = c.next_due.ensures.same in
    let far = subst (λ (q : ScheduleSeen). IsFar c.args.table.now contents c.args.runs.now
    c.args.self.now c.begin-crowded.new.self p.runs (with_schedule p.self q) p.at) (sym same) p.invariant in
    let first = subst (λ (q : ScheduleSeen). IsFirstSet q.readers.due p.at c.in-Some.place)
    (sym same) c.in-Some.ensures.first in
    far_on c.args.table.now c.requires.frame contents c.args.runs.now c.args.self.now
    c.begin-crowded.new.self c.requires.rests.values c.requires.rests.are c.requires.runs c.begin-crowded.ensures
    p.runs (with_schedule p.self c.next_due.new.self) p.at far c.in-Some.place first
    c.step_at.new.runs c.step_at.new.self c.step_at.ensures

pub returns : goal.returns
returns c =
    let table = c.args.table.now in
    let contents = map item_contents c.args.items.now in
    let p = c.loop-place in
    let same = c.next_due.ensures.same in
    let far = subst (λ (q : ScheduleSeen). IsFar table contents c.args.runs.now c.args.self.now
    c.begin-crowded.new.self p.runs (with_schedule p.self q) p.at) (sym same) p.invariant in
    let none = subst (λ (q : ScheduleSeen). NoneSet q.readers.due p.at (length q.readers.due))
    (sym same) (c.in_default.ensures.none refl) in
    subst (λ (q : ScheduleSeen). StepsItems table contents c.args.runs.now p.runs c.args.self.now
    (with_schedule p.self q)) (sym c.end.ensures)
    (items_stepped table c.requires.frame contents c.args.runs.now c.args.self.now c.begin-crowded.new.self
    c.requires.rests.values c.requires.rests.are c.requires.runs c.begin-crowded.ensures p.runs
    (with_schedule p.self c.next_due.new.self) p.at far c.requires.rests.changed none)
