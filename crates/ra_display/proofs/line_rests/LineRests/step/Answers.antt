use Rattle.std.proofs.Common.{length, map, refl, sym, subst}
use Rattle.ra_memref.specs.Flags.{NoneSet, IsFirstSet}
use Rattle.ra_schedule.specs.Schedules.{ScheduleSeen}
use Rattle.ra_schedule.proofs.MembersRest.Frames.{may_begin}
use Rattle.ra_richpresence.specs.Contents.{line_contents}
use Rattle.ra_display.specs.declared.line_rests.LineRests.{LineRests}
use Rattle.ra_display.specs.LineRests.{AreLineRests, AreLinesSeen, HasLinePlace, seen_lines}
use Rattle.ra_display.proofs.LineSteps.{AreLinesFar, has_place, lines_begin, lines_on, rests_after, seen_after}
use Rattle.ra_display.proofs.line_rests.LineRests.step.Goals as goal

-- the rests with another schedule
abbrev with_schedule : LineRests → ScheduleSeen → LineRests
with_schedule rests schedule = record { each = rests.each; schedule = schedule; holds = rests.holds; room = rests.room }

pub begin-crowded-requires : goal.begin-crowded-requires
begin-crowded-requires c =
    may_begin c.args.table.now c.requires.rests.values c.args.self.now.schedule
    c.requires.rests.changed c.requires.rests.are.heard c.requires.sampled

pub loop-place-init : goal.loop-place-init
loop-place-init c =
    lines_begin c.args.table.now c.requires.frame
    (map line_contents c.args.lines.now) c.args.runs.now c.args.self.now c.begin-crowded.new.self
    c.requires.rests.values c.requires.rests.are c.requires.runs c.begin-crowded.ensures
    (record c.args.self.now.room { closed = c.begin-crowded.result })

pub step_at-requires-clause-place : goal.step_at-requires-clause-place
step_at-requires-clause-place c =
    let contents = map line_contents c.args.lines.now in
    let p = c.loop-place in
    subst (λ (q : ScheduleSeen). HasLinePlace contents (with_schedule p.self q) c.in-Some.place)
    (sym c.next_due.ensures.same)
    (has_place c.args.table.now c.requires.frame contents c.args.runs.now c.args.self.now
    c.begin-crowded.new.self c.requires.rests.values c.requires.rests.are c.requires.runs c.begin-crowded.ensures
    p.runs p.self p.at p.invariant c.in-Some.place c.in-Some.ensures.first)

pub loop-place-preserved : goal.loop-place-preserved
loop-place-preserved c =
    let table = c.args.table.now in
    let contents = map line_contents c.args.lines.now in
    let p = c.loop-place in
    let same = c.next_due.ensures.same in
    let far = subst (λ (q : ScheduleSeen). AreLinesFar table contents c.args.runs.now
    c.args.self.now c.begin-crowded.new.self p.runs (with_schedule p.self q) p.at) (sym same) p.invariant in
    let first = subst (λ (q : ScheduleSeen). IsFirstSet q.readers.due p.at c.in-Some.place)
    (sym same) c.in-Some.ensures.first in
    lines_on table c.requires.frame contents c.args.runs.now c.args.self.now c.begin-crowded.new.self
    c.requires.rests.values c.requires.rests.are c.requires.runs c.begin-crowded.ensures p.runs
    (with_schedule p.self c.next_due.new.self) p.at far c.in-Some.place first c.step_at.new.runs
    c.step_at.new.self c.step_at.ensures

pub returns-clause-rests : goal.returns-clause-rests
returns-clause-rests c =
    let table = c.args.table.now in
    let contents = map line_contents c.args.lines.now in
    let p = c.loop-place in
    let same = c.next_due.ensures.same in
    let far = subst (λ (q : ScheduleSeen). AreLinesFar table contents c.args.runs.now
    c.args.self.now c.begin-crowded.new.self p.runs (with_schedule p.self q) p.at) (sym same) p.invariant in
    let none = subst (λ (q : ScheduleSeen). NoneSet q.readers.due p.at (length q.readers.due))
    (sym same) (c.in_default.ensures.none refl) in
    subst (λ (q : ScheduleSeen). AreLineRests table.nodes table.values contents p.runs
    (with_schedule p.self q)) (sym c.end.ensures)
    (rests_after table c.requires.frame contents c.args.runs.now c.args.self.now c.begin-crowded.new.self
    c.requires.rests.values c.requires.rests.are c.requires.runs c.begin-crowded.ensures p.runs
    (with_schedule p.self c.next_due.new.self) p.at far c.requires.rests.changed none)

pub returns-clause-stepped : goal.returns-clause-stepped
returns-clause-stepped c =
    let table = c.args.table.now in
    let contents = map line_contents c.args.lines.now in
    let p = c.loop-place in
    let old = seen_lines c.args.runs.now c.args.self.now in
    let same = c.next_due.ensures.same in
    let far = subst (λ (q : ScheduleSeen). AreLinesFar table contents c.args.runs.now
    c.args.self.now c.begin-crowded.new.self p.runs (with_schedule p.self q) p.at) (sym same) p.invariant in
    let none = subst (λ (q : ScheduleSeen). NoneSet q.readers.due p.at (length q.readers.due))
    (sym same) (c.in_default.ensures.none refl) in
    subst (λ (q : ScheduleSeen). AreLinesSeen table contents old
    (seen_lines p.runs (with_schedule p.self q)) p.self.holds) (sym c.end.ensures)
    (seen_after table c.requires.frame contents c.args.runs.now c.args.self.now c.begin-crowded.new.self
    c.requires.rests.values c.requires.rests.are c.requires.runs c.begin-crowded.ensures p.runs
    (with_schedule p.self c.next_due.new.self) p.at far c.requires.rests.changed none)
