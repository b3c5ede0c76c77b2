use Rattle.std.proofs.Common.{◌≡◌, ◌++◌, [], length, map}
use Rattle.std.specs.Option.{option_to_list, IfNone}
use Rattle.ra_set.specs.Contents.{item_contents}
use Rattle.ra_items.specs.Rests.{events_of}
use Rattle.ra_items.specs.RunEvents.{told_events}
use Rattle.ra_items.proofs.events.EventsIterator.next.Given as goal

abbrev pub invariant-loop-event : goal.invariant-loop-event
invariant-loop-event l = record {
  left : l.fn.self ≡ option_to_list l.event ++ (told_events l.self-inside.told ++ events_of
      (map item_contents l.self-inside.items.now) l.self-inside.runs.now l.self-inside.places.now);
  none : IfNone l.event (told_events l.self-inside.told ≡ []);
}

abbrev pub decreases-loop-event : goal.decreases-loop-event
decreases-loop-event l = length l.self-inside.places.now
