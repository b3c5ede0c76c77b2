use Rattle.std.proofs.Common.{◌≡◌, ◌++◌, take}
use Rattle.ra_text.specs.Words.{words}
use Rattle.ra_text.proofs.words.write_words.Given as goal

abbrev pub invariant-loop-number : goal.invariant-loop-number
invariant-loop-number l = l.bytes.items ≡ l.initial.bytes.items ++ words (take l.number-index l.numbers)
