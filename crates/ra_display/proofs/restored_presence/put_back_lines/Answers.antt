use Rattle.std.proofs.Common.{◌<◌, length, arith}
use Rattle.ra_member.specs.declared.member.Member.{Member}
use Rattle.ra_member.specs.Members.{saved_hits, saved_numbers}
use Rattle.ra_member.specs.MemberRuns.{kept_by}
use Rattle.ra_member.proofs.PutBackLemmas.{within_bytes, row_next, row_ends, rest_next}
use Rattle.ra_member.proofs.SideBySide.{beside_set}
use Rattle.ra_display.specs.PresenceRuns.{IsLineRun}
use Rattle.ra_meaning.specs.LineMembers.{line_member}
use Rattle.ra_display.proofs.restored_presence.put_back_lines.Goals as goal

pub put_back-at-requires-clause-hits : goal.put_back-at-requires-clause-hits
put_back-at-requires-clause-hits c =
    let p = c.loop-place in
    let within : p.place < length c.args.lines.now = omega arith in
    let within_too : p.place < length p.lines = omega arith in
    within_bytes p.place c.args.lines.now p.lines c.index-lines-place.result within within_too
    p.invariant.rest (λ (m : Member). saved_hits (kept_by m)) c.args.bytes.now c.args.from.hits
    p.at.hits p.invariant.hits (length c.args.bytes.now) c.requires.hits

pub put_back-at-requires-clause-numbers : goal.put_back-at-requires-clause-numbers
put_back-at-requires-clause-numbers c =
    let p = c.loop-place in
    let within : p.place < length c.args.lines.now = omega arith in
    let within_too : p.place < length p.lines = omega arith in
    within_bytes p.place c.args.lines.now p.lines c.index-lines-place.result within within_too
    p.invariant.rest (λ (m : Member). saved_numbers (kept_by m)) c.args.bytes.now
    c.args.from.numbers p.at.numbers p.invariant.numbers
    (length c.args.bytes.now) c.requires.numbers

pub loop-place-preserved : goal.loop-place-preserved
loop-place-preserved c =
    let p = c.loop-place in
    let bytes = c.args.bytes.now in
    let olds = c.args.lines.now in
    let d = c.index-lines-place.result in
    let new = c.put_back-at.new.self in
    let at = c.put_back-at.result in
    let e = c.put_back-at.ensures in
    let within : p.place < length olds = omega arith in
    let within_too : p.place < length p.lines = omega arith in
    record {
      stay = λ nodes lines are. beside_set (IsLineRun nodes) lines p.lines p.place d new within_too
          (λ line is. e.stays nodes (line_member line) is) (p.invariant.stay nodes lines are);
      hits = row_next p.place olds p.lines d within within_too p.invariant.rest
          (λ (m : Member). saved_hits (kept_by m)) bytes c.args.from.hits p.at.hits p.invariant.hits
          new at.hits e.hits e.next_hits;
      numbers = row_next p.place olds p.lines d within within_too p.invariant.rest
          (λ (m : Member). saved_numbers (kept_by m)) bytes c.args.from.numbers p.at.numbers
          p.invariant.numbers new at.numbers e.numbers e.next_numbers;
      rest = rest_next p.place olds p.lines d within within_too p.invariant.rest new;
    }

pub returns-clause-hits : goal.returns-clause-hits
returns-clause-hits c =
    let p = c.loop-place in
    (row_ends (λ (m : Member). saved_hits (kept_by m)) c.args.bytes.now c.args.from.hits p.at.hits
    p.place c.args.lines.now p.lines (omega arith) (omega arith) p.invariant.hits).0

pub returns-clause-numbers : goal.returns-clause-numbers
returns-clause-numbers c =
    let p = c.loop-place in
    (row_ends (λ (m : Member). saved_numbers (kept_by m)) c.args.bytes.now c.args.from.numbers
    p.at.numbers p.place c.args.lines.now p.lines (omega arith) (omega arith) p.invariant.numbers).0
