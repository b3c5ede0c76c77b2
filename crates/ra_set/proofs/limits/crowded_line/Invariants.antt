use Rattle.std.proofs.Common.{◌≡◌, map, drop}
use Rattle.ra_richpresence.specs.Contents.{line_contents}
use Rattle.ra_richpresence.specs.Texts.{first_over}
use Rattle.ra_set.specs.ScriptLimits.{macros_of}
use Rattle.ra_set.proofs.limits.crowded_line.Given as goal

abbrev pub invariant-loop-line : goal.invariant-loop-line
invariant-loop-line l = first_over 256 (macros_of (map line_contents l.lines))
    ≡ first_over 256 (macros_of (map line_contents (drop l.line-index l.lines)))
