use Rattle.std.proofs.Common.{◌≡◌, ◌≤◌, ◌-◌, ℕ, List, Some, length}
use Rattle.ra_io.specs.Files.{OnlyRead}
use Rattle.ra_trace.specs.Cutting.{Pieces}
use Rattle.ra_meaning.specs.Play.{Moment}
use Rattle.ra_why.specs.Taking.{Follows}
use Rattle.ra_why.specs.Watching.{trigger_in}
use Rattle.ra_replay.specs.Left.{IsLeft, trace_limit}
use Rattle.ra_why_job.specs.Watching.{Watches}
use Rattle.ra_why_job.proofs.NextLemmas.{LeadsTo}
use Rattle.ra_why_job.proofs.watching.watch.Given as goal

-- the records so far have reached nothing
abbrev pub invariant-loop : goal.invariant-loop
invariant-loop g l = record {
  to : (bytes : List ℕ) (m : Moment) (left : Pieces) → g.F.Files.content l.initial.files
      l.initial.reader.name ≡ Some bytes → Follows l.initial.watcher m
      → IsLeft bytes m l.initial.reader left
      → LeadsTo bytes l.initial.watcher m left l.reader l.watcher;
  size : l.reader.size ≡ Some (length l.initial.watcher.memory);
  name : l.reader.name ≡ l.initial.reader.name;
  limit : l.reader.limit ≡ trace_limit;
  within : l.reader.next ≤ trace_limit;
  watches : Watches (trigger_in l.initial.watcher) (length l.initial.watcher.memory) l.reader.next l.watcher;
  stays : OnlyRead g.F.Files.content g.F.Files.read_faults g.F.Files.put_faults l.initial.files l.files;
}

abbrev pub decreases-loop : goal.decreases-loop
decreases-loop g l = l.reader.limit - l.reader.next
