use Rattle.std.proofs.Common.{ℕ, length, List}
use Rattle.ra_richpresence.specs.Following.{bytes_of}
use Rattle.ra_richpresence.specs.Grammar.{SectionContents}
use Rattle.ra_richpresence.specs.Kept.{Keeps}
use Rattle.ra_richpresence.specs.Reading.{sections_at}
use Rattle.ra_richpresence.proofs.Turns.{SectionsSoFar}
use Rattle.ra_richpresence.proofs.sections.take_sections.Given as goal

abbrev pub invariant-loop-lines : goal.invariant-loop-lines
invariant-loop-lines l = (most : ℕ) (before : List SectionContents) → Keeps most before l.fn.kept
    → SectionsSoFar most before l.kept (bytes_of l.lines.rest.now)
    (sections_at (bytes_of l.fn.lines.rest.now))

abbrev pub decreases-loop-lines : goal.decreases-loop-lines
decreases-loop-lines l = length l.lines.rest.now
