use Rattle.std.proofs.Common.{◌≡◌, drop}
use Rattle.ra_member.specs.declared.member.Member.{Member}
use Rattle.ra_member.specs.Members.{saved_hits, saved_numbers}
use Rattle.ra_member.specs.MemberRuns.{kept_by}
use Rattle.ra_member.proofs.PutBackLemmas.{IsRowBack}
use Rattle.ra_display.specs.PresenceBack.{StayLines}
use Rattle.ra_display.proofs.restored_presence.put_back_lines.Given as goal

abbrev pub invariant-loop-place : goal.invariant-loop-place
invariant-loop-place l = record {
  stay : StayLines l.fn.lines l.lines;
  hits : IsRowBack (λ (m : Member). saved_hits (kept_by m)) l.bytes l.fn.from.hits l.at.hits l.place l.fn.lines l.lines;
  numbers : IsRowBack (λ (m : Member). saved_numbers (kept_by m)) l.bytes l.fn.from.numbers
      l.at.numbers l.place l.fn.lines l.lines;
  rest : drop l.place l.lines ≡ drop l.place l.fn.lines;
}
