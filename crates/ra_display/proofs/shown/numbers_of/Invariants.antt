use Rattle.std.proofs.Common.{◌≡◌, take}
use Rattle.std.specs.List.{flat_map}
use Rattle.ra_member.specs.declared.member.Member.{Member}
use Rattle.ra_member.specs.MemberRuns.{kept_by}
use Rattle.ra_meaning.specs.Presence.{line_numbers}
use Rattle.ra_display.proofs.shown.numbers_of.Given as goal

abbrev pub invariant-loop-line : goal.invariant-loop-line
invariant-loop-line l =
    l.numbers.items ≡ flat_map (λ (r : Member). line_numbers (kept_by r)) (take l.line-index l.fn.run.lines.items)
