use Rattle.std.proofs.Common.{List, ◌++◌, ◌∷◌, [], map, take, sym, subst, arith}
use Rattle.std.proofs.lemmas.List.{take_all}
use Rattle.ra_richpresence.specs.declared.line.Line.{Line}
use Rattle.ra_richpresence.specs.Contents.{line_contents}
use Rattle.ra_member.proofs.GrowthLemmas.{taken_next}
use Rattle.ra_member.proofs.SideBySide.{beside_more}
use Rattle.ra_schedule.specs.declared.member_counts.MemberCounts.{MemberCounts}
use Rattle.ra_display.specs.LineRests.{HasLineRoom, HaveLineRooms}
use Rattle.ra_display.proofs.line_counts.counts_of_lines.Goals as goal

pub loop-line-preserved : goal.loop-line-preserved
loop-line-preserved c =
    let lines = c.args.lines.now in
    let k = c.loop-line.line-index in
    let line = c.line-item.result in
    let each = c.loop-line.each.items in
    let done = map line_contents (take k lines) in
    let more = beside_more HasLineRoom done each
    (line_contents line) c.in_ok-counts.counts c.loop-line.invariant.rooms c.in_ok-counts.ensures in
    let next = taken_next line_contents lines k line c.loop-line-test.true c.line-item.is in
    record {
      rooms =
          subst (λ ls. HaveLineRooms ls c.push.new.self.items) (sym next)
          (subst (λ (cs : List MemberCounts). HaveLineRooms (done ++ line_contents line ∷ []) cs)
          (sym c.in_ok-push.ensures.items) more);
    }

pub returns : goal.returns
returns c =
    let lines = c.args.lines.now in
    subst (λ (ls : List Line). HaveLineRooms (map line_contents ls) c.loop-line.each.items)
    (take_all c.loop-line.line-index lines (omega (arith, c.loop-line-test.false))) c.loop-line.invariant.rooms
