use Rattle.std.proofs.Common.{◌≡◌, length, take}
use Rattle.ra_display.specs.PresenceBack.{hits_of_lines, numbers_of_lines}
use Rattle.ra_display.proofs.shape.kept_by_lines.Given as goal

abbrev pub invariant-loop-line : goal.invariant-loop-line
invariant-loop-line l = record {
  hits : l.hits ≡ length (hits_of_lines (take l.line-index l.lines));
  numbers : l.numbers ≡ length (numbers_of_lines (take l.line-index l.lines));
}
