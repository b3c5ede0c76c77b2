use Rattle.std.proofs.Common.{take}
use Rattle.std.specs.List.{flat_map}
use Rattle.ra_member.specs.Members.{saved_hits, saved_numbers}
use Rattle.ra_member.specs.MemberRuns.{PutsBehind}
use Rattle.ra_display.specs.LineRests.{seen_lines}
use Rattle.ra_display.proofs.saved_presence.put_lines.Given as goal

abbrev pub invariant-loop-place : goal.invariant-loop-place
invariant-loop-place l = record {
  hits : PutsBehind l.initial.rows.hits.items l.rows.hits.items
      (flat_map saved_hits (take l.place (seen_lines l.lines l.rests)));
  numbers : PutsBehind l.initial.rows.numbers.items l.rows.numbers.items
      (flat_map saved_numbers (take l.place (seen_lines l.lines l.rests)));
}
