-- Events as C reads them: docs/DEFINITIONS.md, "Calls from C".
use Rattle.std.specs.Prelude.{ℕ, ℤ, pos}
use Rattle.ra_meaning.specs.declared.event.Event.{Event}
use Rattle.ra_meaning.specs.declared.event.Event.TheVariants.{Measured, Primed, Unprimed, Unlock, Start, Track, Cancel}
use Rattle.ra_meaning.specs.declared.event.Event.TheVariants.{Submit}
use Rattle.ra_calls.specs.declared.told_event.ToldEvent.{ToldEvent}

-- an event of this kind, with the item and the number that is told
abbrev pub told : (kind id : ℕ) → (number : ℤ) → ToldEvent
told kind id number = record { kind = kind; id = id; number = number }

-- an event as C reads it
abbrev pub told_event : Event → ToldEvent
told_event (Measured id number) = told 1 id (pos number)
told_event (Primed id) = told 2 id (pos 0)
told_event (Unprimed id) = told 3 id (pos 0)
told_event (Unlock id) = told 4 id (pos 0)
told_event (Start id) = told 5 id (pos 0)
told_event (Track id number format) = told 6 id number
told_event (Cancel id) = told 7 id (pos 0)
told_event (Submit id number format) = told 8 id number
