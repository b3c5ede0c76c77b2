use Rattle.std.proofs.Common.{◌≡◌, ◌≤◌, ◌+◌, ◌-◌, length, drop}
use Rattle.ra_review.specs.Lines.{before_space}
use Rattle.ra_review.proofs.formats.space_at.Given as goal

-- no space stands so far
abbrev pub invariant-bytes : goal.invariant-bytes
invariant-bytes l = (l.length ≤ length l.text)
    × (length (before_space l.text) ≡ l.length + length (before_space (drop l.length l.text)))

abbrev pub decreases-bytes : goal.decreases-bytes
decreases-bytes l = length l.text - l.length
