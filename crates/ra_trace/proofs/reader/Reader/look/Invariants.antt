use Rattle.std.proofs.Common.{Err, IfOk, ◌≤◌, ◌≡◌, ℕ, ◌+◌, ◌-◌, ◌<◌, min, true, false, if◌then◌else◌, Some, List}
use Rattle.std.proofs.Common.{length, replicate}
use Rattle.ra_io.specs.Files.{OnlyRead}
use Rattle.ra_trace.specs.declared.error.Why.TheVariants.{Cut}
use Rattle.ra_trace.specs.Cutting.{refusal, front}
use Rattle.ra_trace.specs.Heads.{head_length, head_of, why_of}
use Rattle.ra_trace.specs.Reading.{Holds, IsInside, SameReader, unanswered}
use Rattle.ra_trace.proofs.reader.Reader.look.Given as goal

abbrev pub invariant-loop-more : goal.invariant-loop-more
invariant-loop-more g l = record {
  kept : SameReader l.initial.self l.self;
  sized : l.self.size ≡ l.initial.self.size;
  last : l.self.last ≡ l.initial.self.last;
  next : l.self.next ≡ l.initial.self.next;
  inside : IsInside (length l.self.held) l.self.limit l.self.taken l.self.next;
  here : why_of l.found ≡ refusal l.size (replicate 16 true) (unanswered l.self);
  head : IfOk l.found (λ head. head ≡ head_of (front (unanswered l.self)));
  long : IfOk l.found (λ head. head_length head ≤ length (unanswered l.self));
  short : l.found ≡ Err Cut → length (unanswered l.self) < 65542;
  holds : (bytes : List ℕ) → g.F.Files.content l.initial.files l.initial.self.name ≡ Some bytes
      → Holds l.initial.self bytes → Holds l.self bytes;
  end : (bytes : List ℕ) → g.F.Files.content l.initial.files l.initial.self.name ≡ Some bytes →
      Holds l.initial.self bytes → l.more ≡ false → l.self.taken ≡ min l.self.limit (length bytes);
  stays : OnlyRead g.F.Files.content g.F.Files.read_faults g.F.Files.put_faults l.initial.files l.files;
}

abbrev pub decreases-loop-more : goal.decreases-loop-more
decreases-loop-more g l = (l.self.limit - l.self.taken) + (if l.more then 1 else 0)
