use Rattle.std.proofs.Common.{◌≡◌, ◌++◌, take}
use Rattle.ra_member.specs.MemberRuns.{FitWords}
use Rattle.ra_member.proofs.saved.put_numbers.Given as goal

abbrev pub invariant-loop-number : goal.invariant-loop-number
invariant-loop-number l = record {
  all : l.words.items ≡ l.initial.words.items ++ take l.number-index l.numbers;
  fit : FitWords (take l.number-index l.numbers);
}
