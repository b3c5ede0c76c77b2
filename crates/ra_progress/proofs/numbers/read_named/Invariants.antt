use Rattle.std.proofs.Common.{◌≡◌, ℕ, ◌-◌, ◌<◌, length, slice_index}
use Rattle.ra_progress.specs.Contents.{shape_contents}
use Rattle.ra_progress.specs.Layout.{numbered_at}
use Rattle.ra_progress.specs.Names.{names_of, named_by}
use Rattle.ra_progress.specs.Saying.{last_number}
use Rattle.ra_progress.proofs.ByName.{numbered_from}
use Rattle.ra_progress.proofs.numbers.read_named.Given as goal

-- what each name ends up with by the numbers that are left
abbrev pub invariant-loop-k : goal.invariant-loop-k
invariant-loop-k l = record {
  many : length l.numbers.items ≡ length (names_of l.named (shape_contents l.shape));
  rest : (n : ℕ) → n < length (names_of l.named (shape_contents l.shape))
      → last_number (named_by (names_of l.named (shape_contents l.shape)) n)
      (numbered_from l.entries.bytes.now l.entries.at l.k (l.entries.count - l.k)) (slice_index l.numbers.items n)
      ≡ last_number (named_by (names_of l.named (shape_contents l.shape)) n)
      (numbered_at l.entries.bytes.now l.entries.at l.entries.count) 0;
}
