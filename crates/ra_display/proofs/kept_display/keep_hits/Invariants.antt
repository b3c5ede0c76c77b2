use Rattle.std.proofs.Common.{map, take}
use Rattle.std.specs.List.{concat}
use Rattle.ra_member.specs.Members.{saved_hits}
use Rattle.ra_display.specs.Keeping.{PutsWords}
use Rattle.ra_display.specs.LineRests.{seen_lines}
use Rattle.ra_display.proofs.kept_display.keep_hits.Given as goal

-- the hits of the lines so far
abbrev pub invariant-loop-place : goal.invariant-loop-place
invariant-loop-place l = record {
  puts : PutsWords l.fn.row l.row l.fn.at l.next (concat (take l.place (map saved_hits (seen_lines l.lines l.rests))));
}
