use Rattle.std.proofs.Common.{◌≡◌, map, take, drop}
use Rattle.ra_member.specs.declared.member.Member.{Member}
use Rattle.ra_member.specs.Members.{cleared_member}
use Rattle.ra_member.specs.MemberRuns.{kept_by}
use Rattle.ra_display.specs.PresenceBack.{StayLines}
use Rattle.ra_display.proofs.restored_presence.clear_lines.Given as goal

abbrev pub invariant-loop-place : goal.invariant-loop-place
invariant-loop-place l = record {
  stay : StayLines l.fn.lines l.lines;
  kept : map kept_by (take l.place l.lines)
      ≡ map (λ (m : Member). cleared_member (kept_by m)) (take l.place l.fn.lines);
  rest : drop l.place l.lines ≡ drop l.place l.fn.lines;
}
