use Rattle.std.proofs.Common.{◌≤◌, ◌-◌, length}
use Rattle.ra_io.specs.Files.{OnlyRead}
use Rattle.ra_jobs.proofs.Whole.{IsFront}
use Rattle.ra_jobs.proofs.reading.read_whole.Given as goal

abbrev pub invariant-loop-bytes : goal.invariant-loop-bytes
invariant-loop-bytes g l = record {
  within : length l.bytes.items ≤ l.limit;
  told : IsFront (g.F.Files.content l.initial.files l.name) l.bytes.items;
  stays : OnlyRead g.F.Files.content g.F.Files.read_faults g.F.Files.put_faults l.initial.files l.files;
}

abbrev pub decreases-loop-bytes : goal.decreases-loop-bytes
decreases-loop-bytes g l = l.limit - length l.bytes.items
