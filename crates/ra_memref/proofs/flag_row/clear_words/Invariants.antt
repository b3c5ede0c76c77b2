use Rattle.std.proofs.Common.{◌≡◌, ◌<◌, ℕ, length, get_or}
use Rattle.ra_memref.proofs.flag_row.clear_words.Given as goal

abbrev pub invariant-loop-word : goal.invariant-loop-word
invariant-loop-word l = record {
  long : length l.words.items ≡ length l.initial.words.items;
  before : (k : ℕ) → k < l.from → get_or l.words.items k 0 ≡ get_or l.initial.words.items k 0;
}
