use Rattle.std.proofs.Common.{◌≡◌, ℕ, ◌+◌, ◌*◌, ◌<◌, get_or}
use Rattle.ra_text.specs.Words.{word_at}
use Rattle.ra_progress.proofs.numbers.read_numbers.Given as goal

-- the numbers so far are read
abbrev pub invariant-loop-place : goal.invariant-loop-place
invariant-loop-place l = (k : ℕ) → k < l.place → get_or l.numbers k 0 ≡ word_at l.bytes (l.at + 20 * k + 16)
