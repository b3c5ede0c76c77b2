use Rattle.std.proofs.Common.{◌≡◌, ◌++◌}
use Rattle.std.specs.List.{AllByRecursion}
use Rattle.ra_meaning.specs.Lines.{event_lines, HasEventDigits}
use Rattle.ra_runtime.proofs.written.put_events.Given as goal

abbrev pub invariant-loop-event : goal.invariant-loop-event
invariant-loop-event l = record {
  text : l.out.items ≡ l.fn.out.items ++ event_lines l.frame l.yielded;
  left : l.fn.events ≡ l.yielded ++ l.event-iterator;
  digits : AllByRecursion HasEventDigits l.event-iterator;
}
