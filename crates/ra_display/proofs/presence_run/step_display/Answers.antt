use Rattle.std.proofs.Common.{◌≡◌, Some, List, sym, ◌∙◌, subst, arith}
use Rattle.std.specs.Vec.{with_items}
use Rattle.std.proofs.lemmas.List.{with_items_is}
use Rattle.ra_richpresence.specs.Contents.{script_contents}
use Rattle.ra_member.specs.declared.member.Member.{Member}
use Rattle.ra_display.specs.declared.line_rests.LineRests.{LineRests}
use Rattle.ra_display.specs.declared.presence_run.PresenceRun.{PresenceRun}
use Rattle.ra_display.specs.LineRests.{AreLineRests, AreLinesSeen, StepsDisplay, seen_lines}
use Rattle.ra_display.specs.PresenceRuns.{AreLineRuns}
use Rattle.ra_display.proofs.SeenLines.{presence_stepped}
use Rattle.ra_display.proofs.ShownLines.{first_shown, untested_hold}
use Rattle.ra_display.proofs.presence_run.step_display.Goals as goal

pub overflow_cast-run : goal.overflow_cast-run
overflow_cast-run c =
    let lines = (script_contents c.args.script.now).lines in
    let old = c.args.run.now in
    let rests = c.args.rests.now in
    let now = c.step.new.self in
    let seen : AreLinesSeen c.args.table.now lines (seen_lines old.lines.items rests)
    (seen_lines c.step.new.runs now) now.holds =
    rw (c.deref.ensures.value, c.deref_mut.ensures.value) at c.step.ensures.stepped in
    let untested = untested_hold c.args.table.now c.requires.frame.start c.requires.frame.image
    c.requires.frame.has lines _ _ now.holds seen in
    omega (
      arith,
      c.requires.spelled.1,
      c.first-first.ensures.first,
      first_shown lines now.holds c.requires.spelled.0.lines untested,
    )

pub returns : goal.returns
returns c =
    let table = c.args.table.now in
    let script = script_contents c.args.script.now in
    let old = c.args.run.now in
    let news = c.step.new.runs in
    let rests = c.args.rests.now in
    let now = c.step.new.self in
    let new : PresenceRun = record { lines = with_items old.lines news; shown = c.first-first.result } in
    let same : (with_items old.lines news).items ≡ news =
    with_items_is old.lines news (c.step.auto.runs ∙ c.deref_mut.ensures.len) in
    let runs : AreLineRuns table.nodes script.lines news = rw c.deref.ensures.value at c.step.ensures.runs in
    let after : AreLineRests table.nodes table.values script.lines news now =
    rw c.deref.ensures.value at c.step.ensures.rests in
    let seen : AreLinesSeen table script.lines (seen_lines old.lines.items rests) (seen_lines news now) now.holds =
    rw (c.deref.ensures.value, c.deref_mut.ensures.value) at c.step.ensures.stepped in
    let seen_too = subst (λ (rs : List Member). AreLinesSeen table script.lines
    (seen_lines old.lines.items rests) (seen_lines rs now) now.holds) (sym same) seen in
    let untested = untested_hold table c.requires.frame.start c.requires.frame.image
    c.requires.frame.has script.lines _ _ now.holds seen in
    subst (λ (q : LineRests). StepsDisplay table (Some script) (Some old) (Some new) rests q)
    (sym c.first-first.ensures.same) (record {
      run = record {
        lines = subst (λ (rs : List Member). AreLineRuns table.nodes script.lines rs) (sym same) runs;
        shown = omega (
          arith,
          c.first-first.ensures.first,
          first_shown script.lines now.holds c.requires.spelled.0.lines untested,
        );
      };
      rests = subst (λ (rs : List Member). AreLineRests table.nodes table.values script.lines rs now) (sym same) after;
      steps = presence_stepped table c.requires.rests.values script old new rests now c.requires.run
          c.requires.rests.are seen_too c.first-first.ensures.first;
    })
