use Rattle.std.proofs.Common.{length}
use Rattle.ra_richpresence.specs.Contents.{script_contents}
use Rattle.ra_richpresence.specs.Cut.{contents_of}
use Rattle.ra_review.specs.Scripts.{display_numbers, macro_notices}
use Rattle.ra_review.proofs.MacroLemmas.{MacrosLeft}
use Rattle.ra_review.proofs.macros.put_macros.Given as goal

-- the notices so far, and those on what is left
abbrev pub invariant-loop-rest : goal.invariant-loop-rest
invariant-loop-rest l = MacrosLeft (script_contents l.script)
    (macro_notices (script_contents l.script) (display_numbers l.fn.number (contents_of l.text))
    (script_contents l.script).lines)
    l.initial.notices l.notices l.passed l.at l.rest

abbrev pub decreases-loop-rest : goal.decreases-loop-rest
decreases-loop-rest l = length l.rest
