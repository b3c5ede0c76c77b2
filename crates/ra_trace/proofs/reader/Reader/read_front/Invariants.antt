use Rattle.std.proofs.Common.{◌≡◌, ℕ, ◌+◌, ◌-◌, min, false, None, if◌then◌else◌, Some, List, length}
use Rattle.ra_io.specs.Files.{OnlyRead}
use Rattle.ra_trace.specs.Reading.{Holds, SameReader}
use Rattle.ra_trace.proofs.reader.Reader.read_front.Given as goal

abbrev pub invariant-loop-self : goal.invariant-loop-self
invariant-loop-self g l = record {
  kept : SameReader l.initial.self l.self;
  sized : l.self.size ≡ None;
  last : l.self.last ≡ 0;
  next : l.self.next ≡ 0;
  holds : (bytes : List ℕ) → g.F.Files.content l.initial.files l.initial.self.name ≡ Some bytes → Holds l.self bytes;
  end : (bytes : List ℕ) → g.F.Files.content l.initial.files l.initial.self.name ≡ Some bytes
      → l.more ≡ false → l.self.taken ≡ min l.self.limit (length bytes);
  stays : OnlyRead g.F.Files.content g.F.Files.read_faults g.F.Files.put_faults l.initial.files l.files;
}

abbrev pub decreases-loop-self : goal.decreases-loop-self
decreases-loop-self g l = (l.self.limit - l.self.taken) + (if l.more then 1 else 0)
