use Rattle.std.proofs.Common.{◌<◌, length, arith}
use Rattle.ra_member.specs.declared.member.Member.{Member}
use Rattle.ra_member.specs.Members.{cleared_member}
use Rattle.ra_member.specs.MemberRuns.{kept_by}
use Rattle.ra_member.proofs.PutBackLemmas.{mapped_next, rest_next}
use Rattle.ra_member.proofs.SideBySide.{beside_set}
use Rattle.ra_display.specs.PresenceRuns.{IsLineRun}
use Rattle.ra_meaning.specs.LineMembers.{line_member}
use Rattle.ra_display.proofs.restored_presence.clear_lines.Goals as goal

pub loop-place-preserved : goal.loop-place-preserved
loop-place-preserved c =
    let p = c.loop-place in
    let olds = c.args.lines.now in
    let d = c.index-lines-place.result in
    let new = c.clear.new.self in
    let e = c.clear.ensures in
    let within : p.place < length olds = omega arith in
    let within_too : p.place < length p.lines = omega arith in
    record {
      stay = λ nodes lines are. beside_set (IsLineRun nodes) lines p.lines p.place d new within_too
          (λ line is. e.stays nodes (line_member line) is) (p.invariant.stay nodes lines are);
      kept = mapped_next p.place olds p.lines d within within_too p.invariant.rest kept_by
          (λ (m : Member). cleared_member (kept_by m)) new e.kept p.invariant.kept;
      rest = rest_next p.place olds p.lines d within within_too p.invariant.rest new;
    }
