use Rattle.std.proofs.Common.{◌∙◌, ap, map, not}
use Rattle.std.specs.Option.{option_to_list}
use Rattle.ra_set.specs.Contents.{item_contents}
use Rattle.ra_items.specs.Rests.{events_of}
use Rattle.ra_items.specs.RunEvents.{told_events}
use Rattle.ra_items.proofs.EventLemmas.{walk_on, walk_past}
use Rattle.ra_items.proofs.events.EventsIterator.next.Goals as goal

pub loop-event-preserved : goal.loop-event-preserved
loop-event-preserved c =
    let items = map item_contents c.loop-event.self-inside.items.now in
    let runs = c.loop-event.self-inside.runs.now in
    let places = c.loop-event.self-inside.places.now in
    let past = walk_past c.loop-event.event (told_events c.loop-event.self-inside.told)
    (events_of items runs places) (c.is_none.ensures
    ∙ ap not c.loop-event-test.true) c.loop-event.invariant.none in
    let next = c.next-event-in-loop-event in
    record {
      left =
          c.loop-event.invariant.left
          ∙ past
          ∙ walk_on items runs places c.in_ok-place.places.now c.in_ok-place.place.now
          (told_events c.at-self-inside.result) (option_to_list next.result) (told_events
          next.new.self) c.in_ok-place.ensures.cases.0 c.at-self-inside.ensures next.ensures.first;
      none = next.ensures.none;
    }
