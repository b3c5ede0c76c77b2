use Rattle.std.proofs.Common.{◌≡◌, ◌*◌, ◌+◌, map}
use Rattle.std.specs.List.{range_with_len}
use Rattle.ra_text.specs.Words.{word_at}
use Rattle.ra_text.proofs.words.words_at.Given as goal

abbrev pub invariant-loop-k : goal.invariant-loop-k
invariant-loop-k l = l.numbers.items ≡ map (λ k. word_at l.bytes (l.at + 4 * k)) (range_with_len 0 l.k)
