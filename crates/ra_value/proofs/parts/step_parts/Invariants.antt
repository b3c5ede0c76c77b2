use Rattle.std.proofs.Common.{map, take}
use Rattle.ra_condition.specs.Contents.{part_contents}
use Rattle.ra_value.proofs.PartsLemmas.{HasStepped}
use Rattle.ra_value.proofs.parts.step_parts.Given as goal

-- the parts so far are stepped
abbrev pub invariant-loop-place : goal.invariant-loop-place
invariant-loop-place l = HasStepped l.reads.truths.now l.reads.lefts.now l.fn.hits l.sums
    l.fn.numbers
    (map part_contents (take l.place l.text.parts.items)) l.start l.resets l.hits l.numbers
