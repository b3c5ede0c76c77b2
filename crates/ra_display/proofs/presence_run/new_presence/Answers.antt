use Rattle.std.proofs.Common.{◌≡◌, ◌-◌, List, length, map, All, sym, subst, arith}
use Rattle.std.proofs.lemmas.List.{length-map}
use Rattle.ra_richpresence.specs.declared.line.Line.{Line}
use Rattle.ra_richpresence.specs.Contents.{line_contents, script_contents}
use Rattle.ra_display.specs.declared.presence_run.PresenceRun.{PresenceRun}
use Rattle.ra_display.specs.NewPresence.{AreNewLines}
use Rattle.ra_meaning.specs.ShownLines.{IsShownLine}
use Rattle.ra_display.proofs.NewLines.{presence_made}
use Rattle.ra_meaning.proofs.Spelled.Lines.{shown_lines}
use Rattle.ra_display.proofs.presence_run.new_presence.Goals as goal

pub new_lines-requires-clause-spelled : goal.new_lines-requires-clause-spelled
new_lines-requires-clause-spelled c =
    let script = script_contents c.in-Some.script in
    let spelled = rw c.in-Some.is at c.requires.spelled in
    subst (λ (ls : List Line). All IsShownLine (map line_contents ls)) (sym c.deref.ensures.value)
    (shown_lines script.lines spelled.0.lines)

pub returns-in_ok-lines-in-Some : goal.returns-in_ok-lines-in-Some
returns-in_ok-lines-in-Some c =
    let script = script_contents c.in-Some.script in
    let spelled = rw c.in-Some.is at c.requires.spelled in
    let old = c.args.pool.now in
    let new = c.new_lines.new.pool in
    let runs = c.in_ok-lines-in-Some.lines in
    let run : PresenceRun = record { lines = runs; shown = c.len.result - 1 } in
    let are = subst (λ (ls : List Line). AreNewLines old new (map line_contents ls) runs.items)
    c.deref.ensures.value c.in_ok-lines-in-Some.ensures in
    let last : c.len.result - 1 ≡ length script.lines - 1 =
    omega (arith, c.len.ensures, length-map c.in-Some.script.lines.items line_contents) in
    rw c.in-Some.is (presence_made old new script run are spelled.0.lines last)
