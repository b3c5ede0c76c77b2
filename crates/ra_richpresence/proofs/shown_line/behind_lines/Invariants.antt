use Rattle.std.proofs.Common.{◌≡◌, length, map, take, drop}
use Rattle.std.specs.List.{flat_map}
use Rattle.ra_richpresence.specs.Contents.{line_contents, values_in_line}
use Rattle.ra_richpresence.proofs.shown_line.behind_lines.Given as goal

abbrev pub invariant-loop-line : goal.invariant-loop-line
invariant-loop-line l = l.left ≡ drop
    (length (flat_map values_in_line (map line_contents (take l.line-index l.lines)))) l.values
