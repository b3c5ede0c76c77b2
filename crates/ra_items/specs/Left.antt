-- The events that are left of a walk over items: docs/DEFINITIONS.md, "Events".
use Rattle.std.specs.Prelude.{List, ◌++◌, map}
use Rattle.ra_set.specs.Contents.{item_contents}
use Rattle.ra_meaning.specs.declared.event.Event.{Event}
use Rattle.ra_items.specs.declared.events.Events.TheInside.{Inside}
use Rattle.ra_items.specs.Rests.{events_of}
use Rattle.ra_items.specs.RunEvents.{told_events}

-- what is left of one item, and then the events of the items at the places after it
abbrev pub events_left : Inside → List Event
events_left t = told_events t.told ++ events_of (map item_contents t.items.now) t.runs.now t.places.now
