use Rattle.std.proofs.Common.{◌≡◌, ◌<◌, length, map, get_or, sym, ◌∙◌, ap, subst, arith}
use Rattle.std.proofs.lemmas.List.{length-map}
use Rattle.ra_richpresence.specs.Contents.{LineContents, line_contents}
use Rattle.ra_member.specs.declared.member.Member.{Member}
use Rattle.ra_schedule.specs.Inputs.{Instant, MemberSeesSame}
use Rattle.ra_schedule.proofs.MembersRest.SeenAll.{no_signals, signals_on}
use Rattle.ra_schedule.proofs.MembersRest.Woken.{told_still}
use Rattle.ra_schedule.specs.Signals.{AreSignals, SignalsSeen}
use Rattle.ra_schedule.specs.Waking.{IsMemberTold}
use Rattle.ra_meaning.specs.LineMembers.{line_member}
use Rattle.ra_display.specs.LineRests.{AreLinesTold}
use Rattle.ra_display.specs.PresenceRuns.{IsLineRun}
use Rattle.ra_display.proofs.LineAt.{contents_at}
use Rattle.ra_display.proofs.LineSteps.{length_runs, run_at}
use Rattle.ra_display.proofs.line_rests.signals_of.Goals as goal

pub loop-place-init : goal.loop-place-init
loop-place-init c =
    let made = c.in_ok-signals.ensures in
    no_signals c.args.table.now.nodes (AreLinesTold c.args.table.now.nodes
    (map line_contents c.args.lines.now)) (length c.args.lines.now) c.in_ok-signals.signals
    (c.requires.nodes ∙ sym (ap (λ (s : SignalsSeen). s.nodes) made))
    (ap (λ (s : SignalsSeen). s.comparisons) made) (ap (λ (s : SignalsSeen). s.readers.due) made)

pub bounds-runs-place : goal.bounds-runs-place
bounds-runs-place c =
    omega (
      arith,
      c.loop-place-test.true,
      length_runs c.args.table.now.nodes (map line_contents c.args.lines.now) c.args.runs.now c.requires.runs,
      length-map c.args.lines.now line_contents,
    )

pub overflow_cast-place : goal.overflow_cast-place
overflow_cast-place c = omega (arith, c.loop-place-test.true, c.requires.few)

pub note_line-requires-clause-run : goal.note_line-requires-clause-run
note_line-requires-clause-run c =
    let nodes = c.args.table.now.nodes in
    let lines = c.args.lines.now in
    let place = c.loop-place.place in
    let line = c.index-lines-place.result in
    let run = c.index-runs-place.result in
    let here : place < length (map line_contents lines) =
    omega (arith, c.loop-place-test.true, length-map lines line_contents) in
    subst (λ (l : LineContents). IsLineRun nodes l run) (contents_at lines place line
    (line_contents line) c.loop-place-test.true c.index-lines-place.is)
    (subst (λ (r : Member). IsLineRun nodes
    (get_or (map line_contents lines) place (line_contents line)) r) (sym c.index-runs-place.is)
    (run_at nodes (map line_contents lines) c.args.runs.now c.requires.runs place (line_contents line) run here))

pub loop-place-preserved : goal.loop-place-preserved
loop-place-preserved c =
    let nodes = c.args.table.now.nodes in
    let lines = c.args.lines.now in
    let place = c.loop-place.place in
    let line = c.index-lines-place.result in
    let first = c.loop-place.signals in
    let last = c.note_line.new.signals in
    let one = c.in_ok-note_line.ensures in
    signals_on nodes (AreLinesTold nodes (map line_contents lines))
    (length lines) first last place c.loop-place.invariant one.keeps
    (λ k told d. told_still (λ (now later : Instant). MemberSeesSame now later
    (line_member (get_or (map line_contents lines) k d))) nodes first.comparisons last.comparisons
    first.readers last.readers k one.keeps.front one.keeps.kept (told d))
    (λ d. subst (λ (l : LineContents). IsMemberTold nodes last.comparisons last.readers
    (line_member l) place)
    (sym (contents_at lines place line d c.loop-place-test.true c.index-lines-place.is)) one.told)

pub returns : goal.returns
returns c =
    let nodes = c.args.table.now.nodes in
    let lines = c.args.lines.now in
    let all : c.loop-place.place ≡ length lines = omega (arith, c.loop-place-test.false, c.loop-place.auto.place-end) in
    subst (AreSignals nodes (AreLinesTold nodes (map line_contents lines))
    (length lines) c.loop-place.signals) all c.loop-place.invariant
