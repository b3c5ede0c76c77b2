use Rattle.std.proofs.Common.{true, length, map, sym, ◌∙◌, ap}
use Rattle.std.proofs.lemmas.List.{length-map, length-replicate}
use Rattle.ra_richpresence.specs.Contents.{line_contents}
use Rattle.ra_member.proofs.SideBySide.{beside_length}
use Rattle.ra_schedule.specs.Schedules.{no_truths}
use Rattle.ra_display.specs.LineRests.{HasLineRoom}
use Rattle.ra_display.proofs.LineSteps.{length_runs}
use Rattle.ra_display.proofs.NewRests.{all_made, awake_kept}
use Rattle.ra_display.proofs.line_rests.LineRests.new.Goals as goal

pub returns-clause-rests : goal.returns-clause-rests
returns-clause-rests c = λ values.
    let contents = map line_contents c.args.lines.now in
    let lines = sym (length-map c.args.lines.now line_contents) in
    all_made c.args.table.now.nodes values contents c.args.runs.now c.in_ok-signals.signals _
    (rw lines at c.in_ok-signals.ensures) c.in_ok-schedule.ensures c.in_ok-each.ensures
    (ap length c.in_ok-holds.ensures ∙ length-replicate (length c.args.lines.now) true ∙ lines)

pub returns-clause-kept : goal.returns-clause-kept
returns-clause-kept c =
    let runs = c.args.runs.now in
    let each = c.in_ok-each.each.items in
    let contents = map line_contents c.args.lines.now in
    awake_kept runs each c.in_ok-schedule.schedule c.in_ok-signals.signals.readers (no_truths
    c.in_ok-signals.signals.nodes c.in_ok-signals.signals.comparisons) 0 c.in_ok-schedule.ensures
    (beside_length HasLineRoom contents each c.in_ok-each.ensures
    ∙ sym (length_runs c.args.table.now.nodes contents runs c.requires.runs))
