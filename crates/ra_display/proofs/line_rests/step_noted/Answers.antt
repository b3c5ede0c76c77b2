use Rattle.std.proofs.Common.{sym, ◌∙◌, subst}
use Rattle.ra_richpresence.specs.Contents.{line_contents}
use Rattle.ra_member.specs.Members.{MemberKept}
use Rattle.ra_member.specs.MemberRuns.{kept_by}
use Rattle.ra_member.proofs.Shaped.{member_shape}
use Rattle.ra_schedule.specs.Counts.{Judges}
use Rattle.ra_schedule.proofs.MembersRest.For.{held_again, judged_for, judged_tests, judged_values, may_judge}
use Rattle.ra_schedule.proofs.Resting.Keeping.{and_left, and_right}
use Rattle.ra_meaning.specs.LineMembers.{line_member}
use Rattle.ra_display.proofs.line_rests.step_noted.Goals as goal

pub judge-requires : goal.judge-requires
judge-requires c =
    let m = line_member (line_contents c.args.line.now) in
    let nodes = c.args.table.now.nodes in
    let run = c.args.run.now in
    let new = c.step_line-holds.new.member in
    may_judge m c.args.counts.now c.requires.room (kept_by new) (member_shape nodes m new c.step_line-holds.ensures.run)
    c.note-noted.new.self (kept_by run) (member_shape nodes m run c.requires.run) (c.note-noted.ensures c.if-noted.true)

-- what is judged is what the line kept before its step and after it
judges : (c : goal.After-keep_all-rests) → Judges c.args.counts.now c.judge.new.self
    (kept_by c.args.run.now) (kept_by c.step_line-holds.new.member) c.judge.result
judges c =
    let m = line_member (line_contents c.args.line.now) in
    let nodes = c.args.table.now.nodes in
    let run = c.args.run.now in
    let new = c.step_line-holds.new.member in
    subst (λ (k : MemberKept). Judges c.args.counts.now c.judge.new.self k (kept_by new) c.judge.result)
    (held_again m c.args.counts.now c.requires.room (kept_by new)
    (member_shape nodes m new c.step_line-holds.ensures.run)
    c.note-noted.new.self (kept_by run) (member_shape nodes m run c.requires.run)
    (c.note-noted.ensures c.if-noted.true))
    c.judge.ensures

pub returns-then-noted-clause-room : goal.returns-then-noted-clause-room
returns-then-noted-clause-room c =
    let m = line_member (line_contents c.args.line.now) in
    let nodes = c.args.table.now.nodes in
    let run = c.args.run.now in
    let new = c.step_line-holds.new.member in
    judged_for m c.args.counts.now c.judge.new.self (kept_by run) (kept_by new) c.judge.result c.requires.room
    (member_shape nodes m run c.requires.run) (member_shape nodes m new c.step_line-holds.ensures.run) (judges c)

pub returns-then-noted-clause-rests : goal.returns-then-noted-clause-rests
returns-then-noted-clause-rests c = λ both.
    let m = line_member (line_contents c.args.line.now) in
    let nodes = c.args.table.now.nodes in
    let run = c.args.run.now in
    let new = c.step_line-holds.new.member in
    let shape = member_shape nodes m run c.requires.run in
    let shape_too = member_shape nodes m new c.step_line-holds.ensures.run in
    let judged = c.judge.result in
    let keep = sym c.keep_all-rests.ensures ∙ both in
    let told = judges c in
    record {
      bits = λ i. record { tests = told.tests.bits i; values = told.values.bits i };
      small = (c.note-noted.ensures c.if-noted.true).small;
      keeps = record {
        tests = judged_tests m c.args.counts.now c.judge.new.self (kept_by run) (kept_by new) judged
            c.requires.room shape shape_too told (and_left judged.tests judged.values keep);
        values = judged_values m c.args.counts.now c.judge.new.self (kept_by run) (kept_by new)
            judged c.requires.room shape shape_too told (and_right judged.tests judged.values keep);
      };
    }
