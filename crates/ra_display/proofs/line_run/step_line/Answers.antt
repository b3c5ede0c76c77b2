use Rattle.std.proofs.Common.{refl, ap}
use Rattle.ra_condition.specs.Contents.{trigger_contents}
use Rattle.ra_richpresence.specs.Contents.{line_contents, values_in_line}
use Rattle.ra_member.specs.MemberRuns.{StepsValues}
use Rattle.ra_display.proofs.ShownLines.{line_tested, line_untested}
use Rattle.std.proofs.Common.{option_map}
use Rattle.ra_display.proofs.line_run.step_line.Goals as goal

pub returns-in-Some-clause-steps : goal.returns-in-Some-clause-steps
returns-in-Some-clause-steps c =
    let table = c.args.table.now in
    let line = line_contents c.args.line.now in
    let mid = c.step_macros.new.member in
    let values : StepsValues table (values_in_line line) c.args.member.now mid =
    rw c.deref.ensures.value at c.step_macros.ensures in
    line_tested table line c.args.member.now mid c.step_test.new.self c.step_test.result
    c.requires.run values (trigger_contents c.in-Some.text)
    (ap (option_map trigger_contents) c.in-Some.is) c.step_test.ensures

pub returns-in-None-clause-steps : goal.returns-in-None-clause-steps
returns-in-None-clause-steps c =
    let table = c.args.table.now in
    let line = line_contents c.args.line.now in
    let mid = c.step_macros.new.member in
    let values : StepsValues table (values_in_line line) c.args.member.now mid =
    rw c.deref.ensures.value at c.step_macros.ensures in
    line_untested table line c.args.member.now mid mid _ c.requires.run values
    (ap (option_map trigger_contents) c.in-None.is) refl refl
