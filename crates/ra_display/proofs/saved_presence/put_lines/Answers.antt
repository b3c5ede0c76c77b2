use Rattle.std.proofs.Common.{◌≡◌, ◌<◌, length, get_or, sym, ◌∙◌, ap, subst, arith}
use Rattle.std.specs.List.{flat_map}
use Rattle.std.proofs.lemmas.List.{take_all}
use Rattle.ra_member.specs.declared.member.Member.{Member}
use Rattle.ra_member.specs.Members.{MemberKept, saved_hits, saved_numbers}
use Rattle.ra_member.specs.MemberRuns.{PutsBehind, kept_by}
use Rattle.ra_schedule.specs.declared.member_counts.MemberCounts.{MemberCounts}
use Rattle.ra_schedule.specs.Counted.{CountsFit}
use Rattle.ra_schedule.specs.Counts.{counts_of}
use Rattle.ra_schedule.specs.Schedules.{owed_at}
use Rattle.ra_schedule.proofs.MembersRest.SeenAll.{seen_at, seen_many}
use Rattle.ra_display.specs.LineRests.{seen_line, seen_lines}
use Rattle.ra_display.proofs.LinesRest.{seen_as_told}
use Rattle.ra_display.proofs.SavedLines.{fitting_at, fitting_many, put_more}
use Rattle.ra_display.proofs.saved_presence.put_lines.Goals as goal

pub index-requires : goal.index-requires
index-requires c =
    omega (arith, c.loop-place-test.true, fitting_many c.args.lines.now c.args.rests.now.each.items c.requires.fit)

pub put_line-requires : goal.put_line-requires
put_line-requires c =
    let counts = c.args.rests.now.each.items in
    let b = c.index.result.now in
    let line = c.index-lines-place.result in
    let at = fitting_at c.loop-place.place c.args.lines.now counts line b
    (omega (arith, c.loop-place-test.true)) c.requires.fit in
    subst (λ (e : MemberCounts). CountsFit (counts_of e) (kept_by line)) (sym c.index.ensures)
    (subst (λ (m : Member). CountsFit (counts_of (get_or counts c.loop-place.place b)) (kept_by m))
    (sym c.index-lines-place.is) at)

pub loop-place-preserved : goal.loop-place-preserved
loop-place-preserved c =
    let lines = c.args.lines.now in
    let rests = c.args.rests.now in
    let k = c.loop-place.place in
    let line = c.index-lines-place.result in
    let b = c.index.result.now in
    let below : k < length lines = omega (arith, c.loop-place-test.true) in
    let many = fitting_many lines rests.each.items c.requires.fit in
    let kept = seen_lines lines rests in
    let one = seen_line line b c.owed-owed.result in
    let within : k < length kept =
    omega (
      arith,
      below,
      seen_many Member MemberCounts MemberKept seen_line (owed_at rests.schedule) lines rests.each.items many,
    ) in
    let there : get_or kept k one ≡ one =
    seen_at Member MemberCounts MemberKept seen_line
    (owed_at rests.schedule) k lines rests.each.items line b one below many
    ∙ (λ i. seen_line (sym c.index-lines-place.is i) (sym c.index.ensures i) (owed_at rests.schedule k))
    ∙ sym (ap (seen_line line b) c.owed-owed.ensures ∙ seen_as_told line b (owed_at rests.schedule k)) in
    let p = c.loop-place in
    record {
      hits = put_more saved_hits c.args.rows.now.hits.items p.rows.hits.items
          c.put_line.new.rows.hits.items kept k one within there p.invariant.hits
          c.in_ok-put_line.ensures.hits;
      numbers = put_more saved_numbers c.args.rows.now.numbers.items p.rows.numbers.items
          c.put_line.new.rows.numbers.items kept k one within there p.invariant.numbers
          c.in_ok-put_line.ensures.numbers;
    }

pub returns-clause-hits : goal.returns-clause-hits
returns-clause-hits c =
    let lines = c.args.lines.now in
    let rests = c.args.rests.now in
    let many = seen_many Member MemberCounts MemberKept seen_line (owed_at rests.schedule) lines
    rests.each.items (fitting_many lines rests.each.items c.requires.fit) in
    subst (λ ks. PutsBehind c.args.rows.now.hits.items c.loop-place.rows.hits.items
    (flat_map saved_hits ks)) (take_all c.loop-place.place (seen_lines lines rests)
    (omega (arith, c.loop-place-test.false, many))) c.loop-place.invariant.hits

pub returns-clause-numbers : goal.returns-clause-numbers
returns-clause-numbers c =
    let lines = c.args.lines.now in
    let rests = c.args.rests.now in
    let many = seen_many Member MemberCounts MemberKept seen_line (owed_at rests.schedule) lines
    rests.each.items (fitting_many lines rests.each.items c.requires.fit) in
    subst (λ ks. PutsBehind c.args.rows.now.numbers.items c.loop-place.rows.numbers.items
    (flat_map saved_numbers ks)) (take_all c.loop-place.place (seen_lines lines rests)
    (omega (arith, c.loop-place-test.false, many))) c.loop-place.invariant.numbers
