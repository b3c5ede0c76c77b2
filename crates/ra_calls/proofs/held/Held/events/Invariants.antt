use Rattle.std.proofs.Common.{◌≡◌, ◌++◌, map}
use Rattle.ra_calls.specs.ToldEvents.{told_event}
use Rattle.ra_calls.proofs.held.Held.events.Given as goal

abbrev pub invariant-loop-event : goal.invariant-loop-event
invariant-loop-event l = record {
  told : l.told.items ≡ map told_event l.yielded;
  left : l.fn.self.events ≡ l.yielded ++ l.event-iterator;
}
