use Rattle.std.proofs.Common.{◌<◌, ◌&&◌, length, map, get_or, refl, sym, subst, arith}
use Rattle.std.proofs.lemmas.List.{get_or_default, length-map}
use Rattle.ra_richpresence.specs.Contents.{LineContents, line_contents}
use Rattle.ra_member.specs.MemberRuns.{kept_by}
use Rattle.ra_member.proofs.Shaped.{member_shape}
use Rattle.ra_schedule.specs.declared.member_counts.MemberCounts.{MemberCounts}
use Rattle.ra_schedule.specs.Counted.{CountsFit}
use Rattle.ra_schedule.specs.Counts.{counts_of}
use Rattle.ra_schedule.proofs.MembersRest.For.{counts_fit}
use Rattle.ra_schedule.proofs.MembersRest.Frames.{both_true}
use Rattle.ra_schedule.proofs.MembersRest.Turns.{element}
use Rattle.ra_meaning.specs.LineMembers.{line_member}
use Rattle.ra_display.specs.LineRests.{HasLineRoom}
use Rattle.ra_display.proofs.LineAt.{contents_at, own_run, stepped_at}
use Rattle.ra_display.proofs.LineSteps.{length_runs, run_at}
use Rattle.ra_display.proofs.line_rests.LineRests.step_at.Goals as goal

pub bounds-runs-place : goal.bounds-runs-place
bounds-runs-place c =
    omega (
      arith,
      c.requires.here,
      length_runs c.args.table.now.nodes (map line_contents c.args.lines.now) c.args.runs.now c.requires.runs,
      length-map c.args.lines.now line_contents,
    )

pub pay_owed-requires : goal.pay_owed-requires
pay_owed-requires c =
    let nodes = c.args.table.now.nodes in
    let contents = map line_contents c.args.lines.now in
    let runs = c.args.runs.now in
    let place = c.args.place in
    let run = c.index-runs-place.result in
    let had = c.index_mut-counts.result.now in
    let within : place < length contents = omega (arith, c.requires.here, length-map c.args.lines.now line_contents) in
    let a_line = element contents place within in
    let m = line_member (get_or contents place a_line) in
    let shape = member_shape nodes m (get_or runs place run)
    (run_at nodes contents runs c.requires.runs place a_line run within) in
    subst (λ (e : MemberCounts). CountsFit (counts_of e) (kept_by (get_or runs place run)))
    (sym c.index_mut-counts.ensures.value)
    (counts_fit m (get_or c.args.self.now.each.items place had) (c.requires.place.rooms a_line had)
    (kept_by (get_or runs place run)) shape)

pub step_noted-stepped-requires-clause-run : goal.step_noted-stepped-requires-clause-run
step_noted-stepped-requires-clause-run c =
    let line = c.index-lines-place.result in
    let nodes = c.args.table.now.nodes in
    c.pay_owed.ensures.stays nodes (line_member (line_contents line))
    (own_run nodes c.args.lines.now c.args.runs.now c.args.place line c.index-runs-place.result
    c.requires.here c.index-lines-place.is c.requires.runs)

pub step_noted-stepped-requires-clause-room : goal.step_noted-stepped-requires-clause-room
step_noted-stepped-requires-clause-room c =
    let lines = c.args.lines.now in
    let line = c.index-lines-place.result in
    let had = c.index_mut-counts.result.now in
    subst (λ (l : LineContents). HasLineRoom l had)
    (contents_at lines c.args.place line (line_contents line) c.requires.here c.index-lines-place.is)
    (subst (λ (e : MemberCounts). HasLineRoom (get_or (map line_contents lines) c.args.place (line_contents line)) e)
    (sym c.index_mut-counts.ensures.value) (c.requires.place.rooms (line_contents line) had))

pub returns : goal.returns
returns c =
    let table = c.args.table.now in
    let lines = c.args.lines.now in
    let contents = map line_contents lines in
    let runs = c.args.runs.now in
    let place = c.args.place in
    let line = c.index-lines-place.result in
    let run = c.index-runs-place.result in
    let was = get_or runs place run in
    let had = c.index_mut-counts.result.now in
    let stepped = c.step_noted-stepped in
    let known = c.args.self.now.schedule.truths.known in
    let within = c.requires.here in
    let within_runs : place < length runs =
    omega (arith, within, length_runs table.nodes contents runs c.requires.runs, length-map lines line_contents) in
    let within_each : place < length c.args.self.now.each.items =
    omega (arith, within, c.requires.place.many, length-map lines line_contents) in
    let was_is = get_or_default runs place run was within_runs in
    stepped_at table lines place runs _ c.args.self.now _ line was stepped.new.run had stepped.new.counts
    c.owed-owed.result (stepped.result.rests && known) stepped.result.holds within c.index-lines-place.is within_runs
    within_each was_is c.index_mut-counts.ensures.value c.owed-owed.ensures refl refl c.note.ensures
    (λ both. (both_true stepped.result.rests known both).1) c.put.ensures
    stepped.ensures.run stepped.ensures.room
    (record {
      mid = c.pay_owed.new.run;
      is = c.pay_owed.ensures.stays table.nodes (line_member (line_contents line)) (own_run
          table.nodes lines runs place line run within c.index-lines-place.is c.requires.runs);
      kept = c.pay_owed.ensures.kept;
      rested = λ both. stepped.ensures.rests (both_true stepped.result.rests known both).0;
      steps = stepped.ensures.steps;
    })
