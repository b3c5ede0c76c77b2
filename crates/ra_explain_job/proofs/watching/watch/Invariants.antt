use Rattle.std.proofs.Common.{◌≡◌, ◌-◌, ℕ, List, Some, length}
use Rattle.ra_io.specs.Files.{OnlyRead}
use Rattle.ra_trace.specs.Cutting.{Pieces}
use Rattle.ra_meaning.specs.Play.{Moment}
use Rattle.ra_replay.specs.Left.{IsLeft}
use Rattle.ra_explain_job.specs.Watching.{Follows}
use Rattle.ra_explain_job.proofs.NextLemmas.{LeadsTo}
use Rattle.ra_explain_job.proofs.watching.watch.Given as goal

-- the records so far have decided nothing
abbrev pub invariant-loop : goal.invariant-loop
invariant-loop g l = record {
  to : (bytes : List ℕ) (m : Moment) (left : Pieces) → g.F.Files.content l.initial.files
      l.initial.reader.name ≡ Some bytes → Follows l.initial.recorder m
      → IsLeft bytes m l.initial.reader left
      → LeadsTo bytes l.initial.recorder m left l.reader l.recorder;
  size : l.reader.size ≡ Some (length l.recorder.image);
  name : l.reader.name ≡ l.initial.reader.name;
  trigger : l.recorder.trigger ≡ l.initial.recorder.trigger;
  stays : OnlyRead g.F.Files.content g.F.Files.read_faults g.F.Files.put_faults l.initial.files l.files;
}

abbrev pub decreases-loop : goal.decreases-loop
decreases-loop g l = l.reader.limit - l.reader.next
