use Rattle.std.proofs.Common.{◌≡◌, ◌++◌, take}
use Rattle.ra_progress.specs.Spelling.{named_words}
use Rattle.ra_progress.proofs.writing.put_pairs.Given as goal

-- the names so far with their numbers
abbrev pub invariant-loop-k : goal.invariant-loop-k
invariant-loop-k l = l.bytes.items ≡ l.initial.bytes.items ++ named_words (take l.k l.names) (take l.k l.numbers)
