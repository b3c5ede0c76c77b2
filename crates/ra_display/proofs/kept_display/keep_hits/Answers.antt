use Rattle.std.proofs.Common.{◌≡◌, ◌<◌, length, get_or, sym, ◌∙◌, ap, subst, arith}
use Rattle.ra_member.specs.declared.member.Member.{Member}
use Rattle.ra_member.specs.Members.{MemberKept, saved_hits}
use Rattle.ra_member.specs.MemberRuns.{kept_by}
use Rattle.ra_schedule.specs.declared.member_counts.MemberCounts.{MemberCounts}
use Rattle.ra_schedule.specs.Counted.{CountsFit}
use Rattle.ra_schedule.specs.Counts.{counts_of}
use Rattle.ra_schedule.specs.Schedules.{owed_at}
use Rattle.ra_schedule.proofs.MembersRest.SeenAll.{seen_at}
use Rattle.ra_display.specs.Keeping.{HasWords}
use Rattle.ra_display.specs.LineRests.{seen_line, seen_lines}
use Rattle.ra_display.proofs.KeptDisplay.{hits_seen, line_all, line_more, line_room, lines_many}
use Rattle.ra_display.proofs.LinesRest.{seen_as_told}
use Rattle.ra_display.proofs.Putting.{no_words}
use Rattle.ra_display.proofs.SavedLines.{fitting_at, fitting_many}
use Rattle.ra_display.proofs.kept_display.keep_hits.Goals as goal

pub index-requires : goal.index-requires
index-requires c =
    omega (arith, c.loop-place-test.true, fitting_many c.args.lines.now c.args.rests.now.each.items c.requires.fit)

pub put_member_hits-next-requires-clause-fit : goal.put_member_hits-next-requires-clause-fit
put_member_hits-next-requires-clause-fit c =
    let counts = c.args.rests.now.each.items in
    let b = c.index.result.now in
    let line = c.index-lines-place.result in
    let at = fitting_at c.loop-place.place c.args.lines.now counts line b
    (omega (arith, c.loop-place-test.true)) c.requires.fit in
    subst (λ (e : MemberCounts). CountsFit (counts_of e) (kept_by line)) (sym c.index.ensures)
    (subst (λ (m : Member). CountsFit (counts_of (get_or counts c.loop-place.place b)) (kept_by m))
    (sym c.index-lines-place.is) at)

pub put_member_hits-next-requires-clause-room : goal.put_member_hits-next-requires-clause-room
put_member_hits-next-requires-clause-room c =
    let p = c.loop-place in
    let lines = c.args.lines.now in
    let line = c.index-lines-place.result in
    subst (λ (m : Member). HasWords p.row p.next (saved_hits (kept_by m))) (sym c.index-lines-place.is)
    (line_room saved_hits c.args.row.now p.row c.args.at p.next lines
    (seen_lines lines c.args.rests.now) p.place (omega (arith, c.loop-place-test.true))
    p.invariant.puts line (hits_seen lines c.args.rests.now c.requires.fit) c.requires.room)

pub loop-place-init : goal.loop-place-init
loop-place-init c = record { puts = no_words c.args.row.now c.args.at }

pub loop-place-preserved : goal.loop-place-preserved
loop-place-preserved c =
    let p = c.loop-place in
    let lines = c.args.lines.now in
    let rests = c.args.rests.now in
    let k = p.place in
    let line = c.index-lines-place.result in
    let b = c.index.result.now in
    let below : k < length lines = omega (arith, c.loop-place-test.true) in
    let many = fitting_many lines rests.each.items c.requires.fit in
    let kept = seen_lines lines rests in
    let one = seen_line line b c.owed-owed.result in
    let there : get_or kept k one ≡ one =
    seen_at Member MemberCounts MemberKept seen_line
    (owed_at rests.schedule) k lines rests.each.items line b one below many
    ∙ (λ i. seen_line (sym c.index-lines-place.is i) (sym c.index.ensures i) (owed_at rests.schedule k))
    ∙ sym (ap (seen_line line b) c.owed-owed.ensures ∙ seen_as_told line b (owed_at rests.schedule k)) in
    record {
      puts = line_more saved_hits c.args.row.now p.row c.args.at p.next lines kept k below
          p.invariant.puts c.put_member_hits-next.new.row c.put_member_hits-next.result one
          (lines_many lines rests c.requires.fit) there c.put_member_hits-next.ensures;
    }

pub returns : goal.returns
returns c =
    let p = c.loop-place in
    let lines = c.args.lines.now in
    let kept = seen_lines lines c.args.rests.now in
    line_all saved_hits c.args.row.now p.row c.args.at p.next kept p.place
    (omega (arith, c.loop-place-test.false, lines_many lines c.args.rests.now c.requires.fit))
    p.invariant.puts
